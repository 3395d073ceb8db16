-- A reply that is said in one piece, which went out or was cut; and a command that failed before any of it was said.
use Rattle.std.proofs.Common.{◌≡◌, ◌≢◌, ◌∙◌, Bool, ℕ, List, [], Result, Ok, Err, IsErrAnd, IsTrue, sym, subst}
use Rattle.std.specs.Prelude.{IfErr, OnOk}
use Rattle.std.proofs.lemmas.List.{append-nil}
use Rattle.cache_store.specs.Answering.{AnswersTo}
use Rattle.cache_replies.specs.Answers.{outcome_of}
use Rattle.cache_store.specs.Performing.{DoesCommand}
use Rattle.cache_replies.specs.Said.{IsCut, Saying}
use Rattle.cache_replies.specs.Saying.{CutsIn, SaysMore}
use Rattle.cache_store.specs.Session.{Session}
use Rattle.cache_replies.specs.declared.answered.Answered.{Answered}
use Rattle.cache_replies.specs.declared.answered.Answered.TheVariants as answered
use Rattle.cache_replies.specs.declared.verdict.Verdict.TheVariants as outcome
use Rattle.cache_store.specs.declared.fault.StoreFault.{StoreFault}
use Rattle.cache_store.specs.declared.fault.StoreFault.TheVariants as fault
use Rattle.cache_replies.proofs.SayingLaws.{said_nothing}
use Rattle.cache_store.proofs.Saying.Unsaid.{none_cut}
use Rattle.cache_theory.specs.Command.{Command, Reply}
use Rattle.cache_theory.specs.Crash.{IsSafe}
use Rattle.cache_theory.specs.History.{History, begun}
use Rattle.cache_theory.specs.Step.{step}
use Rattle.cache_theory.specs.Text.{reply_text}

module _ (r : Reply) (text : List ℕ) (is : text ≡ reply_text r) (fine : outcome_of r ≡ outcome.Ok) (was now : Saying) (empty : was.held ≡ []) where
  pub whole_said : SaysMore was now text → AnswersTo r (Ok answered.All) was.taken now
  whole_said says = record {
    says = record { front = text; said = says was.taken [] (said_nothing was empty); whole = append-nil text ∙ is };
    outcome = sym fine;
    cut = tt;
  }

  pub whole_cut : (f : StoreFault) → CutsIn was now.taken text → AnswersTo r (Err f) was.taken now
  whole_cut f cuts = record {
    says = tt;
    outcome = tt;
    cut = λ some. subst (λ (t : List ℕ). IsCut was.taken now.taken t) is (cuts was.taken [] (said_nothing was empty));
  }

-- nothing of the reply went out
pub not_said : (r : Reply) (f : StoreFault) (was : Saying) → AnswersTo r (Err f) was.taken was
not_said r f was = record { says = tt; outcome = tt; cut = none_cut r was.taken }

-- and the sink did not fail
pub fails_unsaid : (crash : Bool) (c : Command) (h : History) (answer : Result Answered StoreFault) (P : StoreFault → Type 0) → IsErrAnd answer P
    → ((f : StoreFault) → P f → f ≢ fault.Sink) → (before after : Session) (was : Saying) → (IsTrue crash → IsSafe after.disk (begun c h).marks)
    → DoesCommand crash c h answer before after was.taken was
fails_unsaid crash c h (Ok a) P failed other before after was safe = absurd failed
fails_unsaid crash c h (Err f) P failed other before after was safe = record {
  safe = safe;
  answers = not_said (step h.machine c).reply f was;
  next = tt;
  effect = λ sink. absurd (other f failed sink);
  tells = λ sink. absurd (other f failed sink);
}

pub on_ok : {T E : Type 0} (r : Result T E) {P : Type 0} → P → OnOk r P
on_ok (Ok x) p = p
on_ok (Err e) p = tt

pub if_err : {T E : Type 0} (r : Result T E) {Q : E → Type 0} → ((e : E) → Q e) → IfErr r Q
if_err (Ok x) q = tt
if_err (Err e) q = q e
