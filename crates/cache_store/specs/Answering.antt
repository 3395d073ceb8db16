-- How a reply is said.
use Rattle.std.specs.Prelude.{Err, IfOk, List, Ok, OnErr, Option, Result, [], ℕ, ◌≡◌, ◌≢◌}
use Rattle.cache_replies.specs.Printed.{is_check, lists_findings}
use Rattle.cache_replies.specs.Said.{Saying}
use Rattle.cache_replies.specs.declared.answered.Answered.{Answered}
use Rattle.cache_replies.specs.declared.answered.Answered.TheVariants as answered
use Rattle.cache_store.specs.declared.fault.StoreFault.{StoreFault}
use Rattle.cache_store.specs.declared.fault.StoreFault.TheVariants as fault
use Rattle.cache_replies.specs.declared.pending.Pending.{Pending}
use Rattle.cache_theory.specs.Command.{Command, Reply}
use Rattle.cache_theory.specs.Machine.{Machine}
use Rattle.cache_theory.specs.Step.{step}
use Rattle.cache_theory.specs.Text.{reply_text}
use Rattle.disk_theory.specs.State.{State}
use Rattle.file_handles.specs.Cache.{Cache, cache_at}
use Rattle.handle_table.specs.Kept.{Kept}
use Rattle.file_handles.specs.Stands.{Represents}
use Rattle.cache_replies.specs.Answers.{left_to_say, outcome_in, outcome_of}
use Rattle.cache_replies.specs.Completing.{IsReplyCut, SaysOf}

-- this is the reply, as far as it was said, or it was cut
pub record AnswersTo (r : Reply) (answer : Result Answered StoreFault)
    (before : Option (List ℕ)) (now : Saying) : Type 0 where
  pub says : IfOk answer (λ a. SaysOf (reply_text r) (left_to_say a) before now)
  pub outcome : IfOk answer (λ a. outcome_in a ≡ outcome_of r)
  pub cut : OnErr answer (IsReplyCut r before now.taken)

-- it is the machine's reply to the command, whatever machine the cache stands for
abbrev pub AnswersFor : Cache → Command → Result Answered StoreFault
    → Option (List ℕ) → Saying → Type 0
AnswersFor at c answer before now =
    (m : Machine) → Represents at m → AnswersTo (step m c).reply answer before now

-- so it is over any disk
abbrev pub AnswersOver : Kept → Command → Result Answered StoreFault
    → Option (List ℕ) → Saying → Type 0
AnswersOver handles c answer before now =
    (s : State) → AnswersFor (cache_at handles s) c answer before now

-- what a command answers is still to be said, unless all of it is: nothing of it is out or held, and it lists findings
-- just where the command asks for them
pub record IsStillToSay {S : Type 0} (c : Command) (answer : Result Answered StoreFault)
    (before now : S) (reply : Pending) : Type 0 where
  pub lists : IfOk answer (λ a. lists_findings a ≡ is_check c)
  pub out : IfOk answer (λ a. a ≢ answered.All → now ≡ before)
  pub held : IfOk answer (λ a. a ≢ answered.All → reply.held ≡ [])

-- so it always is where the command is given no sink: no answer is said, and nothing is held that was not before
pub record SaysNothing (c : Command) (answer : Result Answered StoreFault) (was now : Pending)
    : Type 0 where
  pub lists : IfOk answer (λ a. lists_findings a ≡ is_check c)
  pub not_said : answer ≢ Ok answered.All
  pub no_sink : answer ≢ Err fault.Sink
  pub held : now.held ≡ was.held
