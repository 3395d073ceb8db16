-- An answer of which nothing is said yet.
use Rattle.std.proofs.Common.{◌≡◌, ◌≢◌, ℕ, List, [], Option, Result, Ok, Err, refl, ap}
use Rattle.std.specs.Prelude.{IfErr, IfOk, IfSome, OnOk, ⊤}
use Rattle.std.proofs.KnownBytes.{Appends-nil}
use Rattle.std.proofs.lemmas.Option.{IfSome_then}
use Rattle.cache_theory.specs.Command.{Reply}
use Rattle.cache_theory.specs.Text.{reply_text}
use Rattle.cache_theory.proofs.Faults.RepliesLong.{replies_are_not_empty}
use Rattle.cache_store.specs.Answering.{AnswersTo}
use Rattle.cache_replies.specs.Completing.{IsReplyCut, SaysOf}
use Rattle.cache_replies.specs.Answers.{outcome_in, outcome_of, left_to_say}
use Rattle.cache_store.specs.Performing.{HadEffect}
use Rattle.cache_store.specs.Replied.{replied}
use Rattle.cache_replies.specs.Answers.{reply_of}
use Rattle.cache_replies.specs.Said.{Saying}
use Rattle.cache_replies.specs.declared.answered.Answered.{Answered}
use Rattle.cache_replies.specs.declared.answered.Answered.TheVariants as answered
use Rattle.cache_replies.specs.declared.verdict.Verdict.{Verdict}
use Rattle.cache_store.specs.declared.fault.StoreFault.{StoreFault}
use Rattle.cache_store.specs.declared.fault.StoreFault.TheVariants as fault
use Rattle.cache_replies.proofs.SayingLaws.{said_nothing}

-- nothing of it is said yet
abbrev pub IsUnsaid : Result Answered StoreFault → Type 0
IsUnsaid (Ok answered.All) = ⊥
IsUnsaid (Ok _) = ⊤
IsUnsaid (Err fault.Sink) = ⊥
IsUnsaid (Err _) = ⊤

pub unsaid_by : (answer : Result Answered StoreFault) → answer ≢ Ok answered.All → answer ≢ Err fault.Sink → IsUnsaid answer
unsaid_by (Ok answered.All) not_said no_sink = not_said refl
unsaid_by (Err fault.Sink) not_said no_sink = no_sink refl
unsaid_by (Ok a) not_said no_sink = tt
unsaid_by (Err f) not_said no_sink = tt

-- a reply of which nothing went out is cut
pub none_cut : (r : Reply) (o : Option (List ℕ)) → IsReplyCut r o o
none_cut r o = λ some. (0, (replies_are_not_empty r some, Appends-nil o))

said_none : (now : Saying) → now.held ≡ [] → (text rest : List ℕ) → rest ≡ text → SaysOf text rest now.taken now
said_none now none text rest is = record { front = []; said = said_nothing now none; whole = is }

-- what is left to say is its reply
rest_told : (a : Answered) → IsUnsaid (Ok a) → (r : Reply) → IfSome (reply_of a) (λ q. q ≡ r) → left_to_say a ≡ reply_text r
unfolding reply_text
rest_told answered.All unsaid r is = absurd unsaid
rest_told a unsaid r is = ap reply_text is

-- its outcome is that of its reply
pub unsaid_outcome : (answer : Result Answered StoreFault) → IsUnsaid answer → (o : Verdict) → IfSome (replied answer) (λ q. outcome_of q ≡ o) → IfOk answer (λ a. outcome_in a ≡ o)
unsaid_outcome (Ok answered.All) unsaid o is = absurd unsaid
unsaid_outcome (Ok a) unsaid o is = is
unsaid_outcome (Err f) unsaid o is = tt

-- it answers to its reply
pub unsaid_answers : (answer : Result Answered StoreFault) → IsUnsaid answer → (r : Reply) → IfSome (replied answer) (λ q. q ≡ r) → (now : Saying) → now.held ≡ [] → AnswersTo r answer now.taken now
unsaid_answers (Ok a) unsaid r is now none = record {
  says = said_none now none (reply_text r) (left_to_say a) (rest_told a unsaid r is);
  outcome = unsaid_outcome (Ok a) unsaid (outcome_of r) (IfSome_then (reply_of a) is (λ q same. ap outcome_of same));
  cut = tt;
}
unsaid_answers (Err f) unsaid r is now none = record { says = tt; outcome = tt; cut = none_cut r now.taken }

-- and the sink did not fail
pub unsaid_effect : (answer : Result Answered StoreFault) → IsUnsaid answer → (P : Type 0) → IfErr answer (λ f. f ≡ fault.Sink → P)
unsaid_effect (Ok a) unsaid P = tt
unsaid_effect (Err fault.Sink) unsaid P = absurd unsaid
unsaid_effect (Err f) unsaid P = λ same. absurd (cc)

-- so where it had its effect there is an outcome
pub unsaid_had : (answer : Result Answered StoreFault) → IsUnsaid answer → (P : Type 0) → HadEffect answer → OnOk answer P → P
unsaid_had (Ok a) unsaid P had is = is
unsaid_had (Err f) unsaid P had is = let never : (f ≡ fault.Sink → P) = unsaid_effect (Err f) unsaid P in never had
