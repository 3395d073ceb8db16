-- What a command answers, and what of it is still to be said.
use Rattle.std.specs.Prelude.{List, None, Option, Some, [], codes, ℕ, ◌∷◌, ◌≡◌}
use Rattle.cache_replies.specs.declared.answered.Answered.{Answered}
use Rattle.cache_replies.specs.declared.answered.Answered.TheVariants as answered
use Rattle.cache_replies.specs.declared.verdict.Verdict.{Verdict}
use Rattle.cache_replies.specs.declared.verdict.Verdict.TheVariants as outcome
use Rattle.cache_theory.specs.Command.{Command, Reply}
use Rattle.cache_theory.specs.Command.Reply.{Done, Refused, NoneThere, Yes, No, Unknown, Ready, Updating, Findings, Rebuilt, Cleared, Resumed}
use Rattle.cache_theory.specs.Machine.{Machine}
use Rattle.cache_theory.specs.Step.{step}
use Rattle.cache_theory.specs.Text.{findings_text, refusal_words, line, with_number}

-- the reply that is still to be said whole, if there is one
abbrev pub reply_of : Answered → Option Reply
reply_of answered.Done = Some Done
reply_of answered.All = None
reply_of answered.NoneThere = Some NoneThere
reply_of answered.Yes = Some Yes
reply_of answered.No = Some No
reply_of answered.Unknown = Some Unknown
reply_of answered.Ready = Some Ready
reply_of (answered.Updating names) = Some (Updating names)
reply_of (answered.Rebuilt records) = Some (Rebuilt records)
reply_of (answered.Cleared names) = Some (Cleared names)
reply_of answered.Resumed = Some Resumed
reply_of (answered.Checked findings) = Some (Findings findings)
reply_of (answered.Refused r) = Some (Refused r)

-- what is still to be said
abbrev pub left_to_say : Answered → List ℕ
left_to_say answered.Done = line (codes "ok" ∷ [])
left_to_say answered.All = []
left_to_say answered.NoneThere = line (codes "none" ∷ [])
left_to_say answered.Yes = line (codes "yes" ∷ [])
left_to_say answered.No = line (codes "no" ∷ [])
left_to_say answered.Unknown = line (codes "unknown" ∷ [])
left_to_say answered.Ready = line (codes "ready" ∷ [])
left_to_say (answered.Updating names) = with_number (codes "updating") names
left_to_say (answered.Rebuilt records) = with_number (codes "rebuilt") records
left_to_say (answered.Cleared names) = with_number (codes "cleared") names
left_to_say answered.Resumed = []
left_to_say (answered.Checked findings) = findings_text findings
left_to_say (answered.Refused r) = line (refusal_words r)

-- whether a reply is a refusal, or says that something is wrong
abbrev pub outcome_of : Reply → Verdict
outcome_of (Refused r) = outcome.Refused
outcome_of (Findings (f ∷ more)) = outcome.Refused
outcome_of _ = outcome.Ok

-- whether an answer is a refusal, or finds something wrong
abbrev pub outcome_in : Answered → Verdict
outcome_in (answered.Refused r) = outcome.Refused
outcome_in (answered.Checked findings) = outcome_of (Findings findings)
outcome_in _ = outcome.Ok

-- the outcome is the machine's, in whatever state it is
abbrev pub HasOutcome : Command → Answered → Type 0
HasOutcome c a = (m : Machine) → outcome_in a ≡ outcome_of (step m c).reply
