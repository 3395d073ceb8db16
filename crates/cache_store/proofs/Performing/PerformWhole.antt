-- A command and the end of its reply.
use Rattle.std.proofs.Common.{Bool, true, false, ◌≡◌, ◌∙◌, ℕ, List, length, ap, arith, Option, Result, Ok, Err, IsErrAnd, refl, sym, subst}
use Rattle.std.specs.Prelude.{IfOk, OnErr, OnOk, slice_get}
use Rattle.cache_base.specs.declared.name.Name.{Name}
use Rattle.cache_theory.specs.Checks.{checks}
use Rattle.cache_theory.specs.Command.{Command}
use Rattle.cache_theory.specs.Command.Command.{ClearNames, ClearOrigin, Flush}
use Rattle.cache_theory.specs.Covers.{cleared}
use Rattle.cache_theory.specs.Crash.{IsSafe}
use Rattle.cache_theory.specs.History.{History, acked, begun, settled_at, unanswered}
use Rattle.cache_theory.specs.Machine.{Machine}
use Rattle.cache_theory.specs.Marks.{Marks, acked as acked_marks, marks_of}
use Rattle.cache_theory.specs.Step.{cleared_of, effect, step, unmarked, update_ended}
use Rattle.cache_theory.specs.Text.{reply_text}
use Rattle.cache_theory.proofs.CrashImages.Crashes.{safe_is_crash_safe}
use Rattle.file_handles.proofs.Begun.{begun_in}
use Rattle.file_handles.proofs.Where.{marked_in}
use Rattle.cache_replies.specs.Completing.{CutsRest, SendsRest}
use Rattle.cache_replies.specs.Answers.{outcome_in, left_to_say}
use Rattle.cache_store.specs.Open.{KeepsTo, Represents, Tells}
use Rattle.cache_store.specs.Performing.{DoesCommand, DoesWhatIsDone, KeepsHistory, Performs, PerformsFor}
use Rattle.cache_replies.specs.Said.{Saying}
use Rattle.cache_store.specs.Session.{Open, Session}
use Rattle.cache_replies.specs.declared.answered.Answered.{Answered}
use Rattle.cache_replies.specs.declared.verdict.Verdict.{Verdict}
use Rattle.cache_store.specs.declared.fault.StoreFault.{StoreFault}
use Rattle.cache_store.specs.declared.fault.StoreFault.TheVariants as fault
use Rattle.cache_store.proofs.Clearing.ObjectsDoomed.{as_many, undoomed_before}
use Rattle.cache_store.proofs.Performing.Represented.{keeps_bare, keeps_marked, keeps_to, represented}

-- a command that settles, and dooms these names, had its effect, and is not acknowledged
settled_stands : (c : Command) (names : List Name) (h : History) (before after : Session) → (step h.machine c).next ≡ cleared_of h.machine names
    → acked_marks h.machine c h.marks ≡ marks_of (step h.machine c).next
    → KeepsTo before h → IsSafe after.disk (begun c h).marks → KeepsTo after (acked c h) → KeepsTo after (unanswered c h)
settled_stands c names h before after dooms marks is safe stands =
    let was = (begun_in before.disk before.open_store.handles h.machine c h.marks (marked_in is.stands)).crash_kept refl in
    let next : Machine = (step h.machine c).next in
    let settled : KeepsTo after (settled_at next) = subst (λ (w : Marks). KeepsTo after (record { machine = next; marks = w })) marks stands in
    let kept = settled.stands.crash_kept in
    let many : length next.objects ≡ length h.machine.objects = ap (λ (m : Machine). length m.objects) dooms ∙ as_many (update_ended (unmarked h.machine)) names in
    let young = was.young in
    record {
      stands = record {
        number = settled.stands.number;
        stands = settled.stands.stands;
        crash_kept = record {
          safe = safe;
          once = kept.once;
          aside = λ k i file name at held names ever. let touched = (kept.aside k i file name at held names ever).touched in absurd (cc);
          unburied = λ i o at un. was.unburied i o (undoomed_before (update_ended (unmarked h.machine)) names i o (ap (λ (m : Machine). slice_get m.objects i) (sym dooms) ∙ at) un) un;
          young = omega (arith, many, young);
        };
      };
      matches = settled.matches;
    }

-- a command that had its effect, and is not acknowledged
pub begun_stands : (c : Command) (h : History) (before after : Session) → KeepsTo before h → IsSafe after.disk (begun c h).marks → KeepsTo after (acked c h) → KeepsTo after (unanswered c h)
unfolding checks effect
begun_stands Flush h before after is safe stands =
    let was = begun_in before.disk before.open_store.handles h.machine Flush h.marks (marked_in is.stands) in
    let kept = stands.stands.crash_kept in
    record {
      stands = record {
        number = stands.stands.number;
        stands = stands.stands.stands;
        crash_kept = record {
          safe = safe;
          once = kept.once;
          aside = λ k i file name at held names ever. let touched = (kept.aside k i file name at held names ever).touched in absurd (cc);
          unburied = (was.crash_kept refl).unburied;
          young = (was.crash_kept refl).young;
        };
      };
      matches = stands.matches;
    }
begun_stands (ClearOrigin origin) h before after is safe stands = settled_stands (ClearOrigin origin) (cleared h.machine origin) h before after refl refl is safe stands
begun_stands (ClearNames names) h before after is safe stands = settled_stands (ClearNames names) names h before after refl refl is safe stands
begun_stands c h before after is safe stands = stands

-- what is done with and without a crash makes up what is promised
performs_for : (c : Command) (answer : Result Answered StoreFault) (final : Result Verdict StoreFault) (before mid after : Session) (taken : Option (List ℕ)) (between : Saying) (now : Option (List ℕ))
    → ((d : Command) (b : Bool) (h : History) → DoesCommand b d h answer before mid taken between → Performs d h.machine final before after taken now)
    → ((d : Command) (h : History) → KeepsTo before h → DoesCommand true d h answer before mid taken between → KeepsHistory d h final after)
    → DoesWhatIsDone c answer before mid taken between → PerformsFor c final before after taken now
performs_for c answer final before mid after taken between now performs keeps does = record {
  answers = λ m stand. let done = does false (settled_at m) (keeps_bare stand) in (done.0, (done.1.0, performs done.0 false (settled_at m) done.1.1));
  crash = λ h is.
      let done = does true h (keeps_marked is) in
      (done.0, (done.1.0, record { performs = performs done.0 true h done.1.1; keeps = keeps done.0 h is done.1.1 }));
}

-- what the disk keeps after a failure; where it was the sink that failed, the command had its effect
failed_keeps : (d : Command) (h : History) (f : StoreFault) (before after : Session) → KeepsTo before h → IsSafe after.disk (begun d h).marks → (f ≡ fault.Sink → KeepsTo after (acked d h))
    → KeepsHistory d h (Err f) after
failed_keeps d h f before after is safe next = record {
  crash = safe_is_crash_safe after.disk (begun d h).marks safe;
  acked_crash = λ sink. safe_is_crash_safe after.disk (acked d h).marks (next sink).stands.crash_kept.safe;
  safe = safe;
  next = tt;
  effect = next;
  unanswered = λ sink. begun_stands d h before after is safe (next sink);
}

-- a command that failed
pub fails_performs : (c : Command) (f : StoreFault) (final : Result Verdict StoreFault) (before after : Session) (taken : Option (List ℕ)) (now : Saying) → IsErrAnd final (λ e. e ≡ f)
    → DoesWhatIsDone c (Err f) before after taken now → PerformsFor c final before after taken now.taken
fails_performs c f (Ok o) before after taken now is does = absurd is
fails_performs c f (Err e) before after taken now is does =
    performs_for c (Err f) (Err e) before after after taken now now.taken
    (λ d b h done. record {
      printed = tt;
      outcome = tt;
      next = tt;
      cut = done.answers.cut;
      effect = λ same. represented (done.effect (sym is ∙ same));
      tells = λ same. done.tells (sym is ∙ same);
    }) (λ d h stands done. failed_keeps d h e before after stands (done.safe refl) (λ same. keeps_to (done.effect (sym is ∙ same)))) does

-- what holds of an open store holds of the same by another name
as_open : (P : Session → Type 0) (mid : Session) (last : Open) → last ≡ mid.open_store → P mid → P (record { open_store = last; disk = mid.disk })
as_open P mid last same = subst (λ (k : Open). P (record { open_store = k; disk = mid.disk })) (sym same)

-- one whose reply goes out, or is cut there
pub does_performs : (c : Command) (a : Answered) (final : Result Verdict StoreFault) (before mid : Session) (last : Open) (taken : Option (List ℕ)) (between : Saying) (now : Option (List ℕ))
    → OnOk final (SendsRest (left_to_say a) between now) → OnErr final (CutsRest (left_to_say a) between now) → IfOk final (λ o. o ≡ outcome_in a) → last ≡ mid.open_store
    → DoesWhatIsDone c (Ok a) before mid taken between → PerformsFor c final before (record { open_store = last; disk = mid.disk }) taken now
does_performs c a (Ok o) before mid last taken between now printed cut outcome same does =
    let after : Session = record { open_store = last; disk = mid.disk } in
    performs_for c (Ok a) (Ok o) before mid after taken between now
    (λ d b h done.
    let next = (step h.machine d).next in
    record {
      printed = printed (reply_text (step h.machine d).reply) taken done.answers.says;
      outcome = outcome ∙ done.answers.outcome;
      next = as_open (λ now. Represents now next) mid last same (represented done.next);
      cut = tt;
      effect = tt;
      tells = λ had comes. as_open (λ now. Tells now next) mid last same (done.tells tt comes);
    })
    (λ d h stands done.
    let next : KeepsTo after (acked d h) = as_open (λ now. KeepsTo now (acked d h)) mid last same (keeps_to done.next) in
    record {
      crash = safe_is_crash_safe mid.disk (begun d h).marks (done.safe refl);
      acked_crash = λ had. safe_is_crash_safe mid.disk (acked d h).marks next.stands.crash_kept.safe;
      safe = done.safe refl;
      next = next;
      effect = tt;
      unanswered = tt;
    }) does
does_performs c a (Err f) before mid last taken between now printed cut outcome same does =
    let after : Session = record { open_store = last; disk = mid.disk } in
    performs_for c (Ok a) (Err f) before mid after taken between now
    (λ d b h done.
    let next = (step h.machine d).next in
    record {
      printed = tt;
      outcome = tt;
      next = tt;
      cut = λ some. cut (reply_text (step h.machine d).reply) taken done.answers.says;
      effect = λ sink. as_open (λ now. Represents now next) mid last same (represented done.next);
      tells = λ had comes. as_open (λ now. Tells now next) mid last same (done.tells tt comes);
    })
    (λ d h stands done. failed_keeps d h f before after stands (done.safe refl) (λ sink. as_open (λ now. KeepsTo now (acked d h)) mid last same (keeps_to done.next))) does
