-- What a `putalt` leaves of the chunks that are held, by its outcome.
use Rattle.std.proofs.Common.{◌≡◌, ℕ, List, [], Err, IfOk, Ok, OnOk, Result, refl, subst, sym}
use Rattle.cache_replies.specs.Answers.{outcome_in}
use Rattle.cache_store.specs.Learnt.{HasOutcomeOf}
use Rattle.cache_store.specs.Reads.{PutsChunks}
use Rattle.cache_replies.specs.declared.answered.Answered.{Answered}
use Rattle.cache_store.specs.declared.fault.StoreFault.{StoreFault}
use Rattle.cache_replies.specs.declared.verdict.Verdict.{Verdict}
use Rattle.cache_replies.specs.declared.verdict.Verdict.TheVariants as outcome
use Rattle.cache_theory.specs.Command.{Command}
use Rattle.cache_theory.specs.Command.Command.{Doom, PutAlt}
use Rattle.file_handles.specs.Answers.{OnRefused}
use Rattle.handle_table.specs.HeldChunks.{SameChunks}
use Rattle.handle_table.specs.Kept.{Kept}
use Rattle.file_handles.specs.PuttingAlt.{chunks_but_own}
use Rattle.file_handles.specs.declared.fault.HandleFault.{HandleFault}
use Rattle.file_handles.specs.declared.fault.HandleFault.TheVariants.{Disk, Memory, Read, Refused}

-- the slot of a `putalt`
abbrev pub slot_put : Command → ℕ
slot_put (PutAlt slot kind bytes) = slot
slot_put c = 0

-- the key of a `doom`
abbrev pub key_doomed : Command → List ℕ
key_doomed (Doom key) = key
key_doomed c = []

by_outcome : (o is : Verdict) (slot : ℕ) (before after : Kept) → o ≡ is → PutsChunks is slot before after → PutsChunks o slot before after
by_outcome o is slot before after same puts = subst (λ (v : Verdict). PutsChunks v slot before after) (sym same) puts

pub puts_chunks : {T : Type 0} (r : Result T HandleFault) (answer : Result Answered StoreFault) (slot : ℕ) (before after : Kept)
    → OnOk r (after.chunks ≡ chunks_but_own before slot) → OnRefused r (λ refusal. SameChunks before after)
    → IfOk answer (λ a. HasOutcomeOf r (outcome_in a)) → IfOk answer (λ a. PutsChunks (outcome_in a) slot before after)
puts_chunks r (Err fault) slot before after dropped same went = tt
puts_chunks (Ok value) (Ok a) slot before after dropped same went = by_outcome (outcome_in a) outcome.Ok slot before after went dropped
puts_chunks (Err (Refused x)) (Ok a) slot before after dropped same went = by_outcome (outcome_in a) outcome.Refused slot before after went (same x refl)
puts_chunks (Err Read) (Ok a) slot before after dropped same went = absurd went
puts_chunks (Err Disk) (Ok a) slot before after dropped same went = absurd went
puts_chunks (Err Memory) (Ok a) slot before after dropped same went = absurd went

-- the reply is out, with the outcome of the answer
pub sent_chunks : (r : Result Verdict StoreFault) (o : Verdict) (slot : ℕ) (before after : Kept) → IfOk r (λ is. is ≡ o) → PutsChunks o slot before after → IfOk r (λ is. PutsChunks is slot before after)
sent_chunks (Ok is) o slot before after same puts = by_outcome is o slot before after same puts
sent_chunks (Err fault) o slot before after same puts = tt
