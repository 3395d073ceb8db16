-- A reply that was said, that is still to be said, or that was cut.
use Rattle.std.specs.Prelude.{codes}
use Rattle.std.proofs.Common.{◌≡◌, ℕ, List, [], Option, Some, Result, Ok, Err, IsErrAnd, refl, sym, subst, append-nil}
use Rattle.cache_store.specs.Answering.{AnswersTo}
use Rattle.cache_replies.specs.Completing.{CutsRest, SaysOf}
use Rattle.cache_replies.specs.Answers.{outcome_of}
use Rattle.cache_replies.specs.Said.{IsCut, Said, Saying}
use Rattle.cache_replies.specs.Saying.{CutsIn, SaysMore}
use Rattle.cache_replies.specs.declared.answered.Answered.{Answered}
use Rattle.cache_replies.specs.declared.answered.Answered.TheVariants as answered
use Rattle.cache_replies.specs.declared.verdict.Verdict.TheVariants as outcome
use Rattle.cache_store.specs.declared.fault.StoreFault.{StoreFault}
use Rattle.cache_theory.specs.Command.{Command, Reply}
use Rattle.cache_theory.specs.Command.Reply.{Part, Value}
use Rattle.cache_theory.specs.Machine.{Machine}
use Rattle.cache_theory.specs.Step.{step}
use Rattle.cache_theory.specs.Text.{reply_text, with_bytes}
use Rattle.file_handles.specs.Cache.{Cache}
use Rattle.file_handles.specs.Carries.{CarriesOut}
use Rattle.file_handles.specs.Stands.{Represents}
use Rattle.cache_replies.proofs.SayingLaws.{said_nothing}

-- the rest of a reply is cut
pub rest_cut : (was : Saying) (now : Option (List ℕ)) (rest : List ℕ) → CutsIn was now rest → CutsRest rest was now
rest_cut was now rest cuts text before says = subst (IsCut before now) says.whole (cuts before says.front says.said)

-- or is said
pub rest_said : (was now : Saying) (rest : List ℕ) → SaysMore was now rest → (text : List ℕ) (before : Option (List ℕ)) → SaysOf text rest before was → Said before now text
rest_said was now rest more text before says = subst (Said before now) says.whole (more before says.front says.said)

module _ (was : Saying) (none : was.held ≡ []) (now : Saying) where
  -- a reply that is said whole
  pub said_all : (r : Reply) → outcome_of r ≡ outcome.Ok → SaysMore was now (reply_text r) → AnswersTo r (Ok answered.All) was.taken now
  said_all r fine more = record {
    says = record { front = reply_text r; said = more was.taken [] (said_nothing was none); whole = append-nil (reply_text r) };
    outcome = sym fine;
    cut = tt;
  }

  -- one that is cut
  pub cut_answer : (r : Reply) (answer : Result Answered StoreFault) (f : StoreFault) → IsErrAnd answer (λ e. e ≡ f) → CutsIn was now.taken (reply_text r) → AnswersTo r answer was.taken now
  cut_answer r (Ok x) f is cuts = absurd is
  cut_answer r (Err e) f is cuts = record { says = tt; outcome = tt; cut = λ some. cuts was.taken [] (said_nothing was none) }

  -- bytes after their line
  pub value_said : (v : List ℕ) → SaysMore was now (with_bytes (codes "value") v) → AnswersTo (Value v) (Ok answered.All) was.taken now
  unfolding reply_text
  value_said v more = said_all (Value v) refl more

  pub value_cut : (v : List ℕ) (answer : Result Answered StoreFault) (f : StoreFault) → IsErrAnd answer (λ e. e ≡ f) → CutsIn was now.taken (with_bytes (codes "value") v) → AnswersTo (Value v) answer was.taken now
  unfolding reply_text
  value_cut v answer f is cuts = cut_answer (Value v) answer f is cuts

  pub bytes_said : (v : List ℕ) → SaysMore was now (with_bytes (codes "data") v) → AnswersTo (Part v) (Ok answered.All) was.taken now
  unfolding reply_text
  bytes_said v more = said_all (Part v) refl more

  pub bytes_cut : (v : List ℕ) (answer : Result Answered StoreFault) (f : StoreFault) → IsErrAnd answer (λ e. e ≡ f) → CutsIn was now.taken (with_bytes (codes "data") v) → AnswersTo (Part v) answer was.taken now
  unfolding reply_text
  bytes_cut v answer f is cuts = cut_answer (Part v) answer f is cuts

-- the machine's reply, where a call carries the command out
pub as_carried : (before after : Cache) (c : Command) (r : Reply) → CarriesOut c (Some r) before after → (m : Machine) → Represents before m
    → (answer : Result Answered StoreFault) (out : Option (List ℕ)) (now : Saying) → AnswersTo r answer out now → AnswersTo (step m c).reply answer out now
as_carried before after c r carried m is answer out now said = subst (λ (q : Reply). AnswersTo q answer out now) (carried.answers m is).reply said
