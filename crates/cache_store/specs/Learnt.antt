-- What is learnt of a call of the handles.
use Rattle.std.specs.Prelude.{Err, None, Ok, OnOk, Option, Result, Some, ◌≡◌, ◌≢◌}
use Rattle.cache_store.specs.Records.{LearnsEffect}
use Rattle.cache_store.specs.Replied.{replied}
use Rattle.cache_replies.specs.declared.answered.Answered.{Answered}
use Rattle.cache_replies.specs.declared.answered.Answered.TheVariants as answered
use Rattle.cache_store.specs.declared.fault.StoreFault.{StoreFault}
use Rattle.cache_store.specs.declared.fault.StoreFault.TheVariants as fault
use Rattle.cache_replies.specs.declared.verdict.Verdict.{Verdict}
use Rattle.cache_replies.specs.declared.verdict.Verdict.TheVariants as outcome
use Rattle.memory_index.specs.declared.memory_index.MemoryIndex.{MemoryIndex}
use Rattle.cache_theory.specs.Command.{Reply}
use Rattle.file_handles.specs.declared.fault.Effect.{Effect}
use Rattle.file_handles.specs.declared.fault.Effect.TheVariants as effect
use Rattle.file_handles.specs.declared.fault.HandleFault.{HandleFault}
use Rattle.file_handles.specs.declared.fault.HandleFault.TheVariants.{Refused}

-- what is to be learnt of a call, which is nothing where it did nothing
abbrev pub effect_of : Result Effect HandleFault → Effect
effect_of (Ok e) = e
effect_of (Err f) = effect.Same

-- what is to be learnt of a call that may find nothing to do
abbrev pub effect_of_some : Result (Option Effect) HandleFault → Effect
effect_of_some (Ok (Some e)) = e
effect_of_some (Ok None) = effect.Same
effect_of_some (Err f) = effect.Same

-- the outcome of an answer to a fault: only a refusal is answered
abbrev pub HasOutcomeOfFault : HandleFault → Verdict → Type 0
HasOutcomeOfFault (Refused r) o = o ≡ outcome.Refused
HasOutcomeOfFault f o = ⊥

-- and of one to a call
abbrev pub HasOutcomeOf : {T : Type 0} → Result T HandleFault → Verdict → Type 0
HasOutcomeOf (Ok value) o = o ≡ outcome.Ok
HasOutcomeOf (Err f) o = HasOutcomeOfFault f o

-- the call is answered by the reply, and this is learnt; or memory ran out, or the disk failed
pub record IsLearnt (reply : Option Reply) (e : Effect) (answer : Result Answered StoreFault)
    (old new : MemoryIndex) : Type 0 where
  pub is_reply : OnOk answer (replied answer ≡ reply)
  pub learns : OnOk answer (LearnsEffect e old new)
  pub not_said : answer ≢ Ok answered.All
  pub no_sink : answer ≢ Err fault.Sink
