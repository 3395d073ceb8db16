-- What a stop leaves of a clearing that was performed, and of one that was not.
use Rattle.std.proofs.Common.{◌≡◌, ◌∙◌, ℕ, List, Option, None, Some, Result, Ok, Err, IfSome, refl, subst, sym}
use Rattle.std.proofs.lemmas.Bool.{false_from_ne_true}
use Rattle.cache_store.specs.DoneFor.{IsDoneFor}
use Rattle.cache_store.specs.Open.{KeepsTo, Tells}
use Rattle.cache_store.specs.Performing.{HadEffect, KeepsHistory}
use Rattle.cache_replies.specs.declared.verdict.Verdict.{Verdict}
use Rattle.cache_store.specs.Session.{Session}
use Rattle.cache_store.specs.StoppedClearing.{ClearsUnderMark}
use Rattle.cache_store.specs.StoppedClearing.IsNoneOrAll.{AsBefore, NoneIsLeft}
use Rattle.cache_store.specs.declared.fault.StoreFault.{StoreFault}
use Rattle.cache_store.specs.declared.fault.StoreFault.TheVariants as fault
use Rattle.cache_store.proofs.Clearing.ClearedLaws.{stopped_clearing_is_none_or_all}
use Rattle.cache_theory.specs.Checks.{checks}
use Rattle.cache_theory.specs.Command.{Command}
use Rattle.cache_theory.specs.Command.Command.{ClearOrigin}
use Rattle.cache_theory.specs.Covers.{covers}
use Rattle.cache_theory.specs.Crash.{IsCrashSafe, IsSafe}
use Rattle.cache_theory.specs.History.{History, acked}
use Rattle.cache_theory.specs.Machine.{Machine}
use Rattle.cache_theory.specs.Marks.{Marks, acked as acked_marks, marks_of}
use Rattle.cache_theory.specs.Step.{effect, step}
use Rattle.cache_theory.proofs.Clears.ClearedNames.{none_left}
use Rattle.cache_theory.proofs.CrashImages.Crashes.{safe_is_crash_safe}
use Rattle.cache_base.specs.declared.status.Status.{Status}
use Rattle.cache_tool.specs.Clearings.{LeavesNoneOrAll, MayHaveCleared}
use Rattle.cache_tool.specs.Statuses.{IsClosing, status_in}
use Rattle.cache_tool.proofs.SameLaws.{done_same}
use Rattle.disk_theory.specs.State.{State}
use Rattle.entry_key.specs.Tags.{value_hash}

-- it was not begun
pub safe_clears_none : (origin : List ℕ) (w : Marks) (t : State) → IsCrashSafe t w → LeavesNoneOrAll origin w t
safe_clears_none origin w t safe = record { before = t; safe = safe; images = λ image is. AsBefore image (safe image is) (λ key. refl) }

none_cleared : (origin : List ℕ) (w : Marks) (t : State) → IsSafe t w → LeavesNoneOrAll origin w t
none_cleared origin w t safe = safe_clears_none origin w t (safe_is_crash_safe t w safe)

-- nor is it where the session goes on to be closed
pub not_cleared : (origin : List ℕ) (h : History) (came : Status) (now : Session) → KeepsTo now h → MayHaveCleared origin h.marks came now
not_cleared origin h came now keeps = record {
  stopped = none_cleared origin h.marks now.disk keeps.stands.crash_kept.safe;
  closed = λ closing. (h, (keeps, λ t safe. none_cleared origin h.marks t safe));
}

clearing_settles : (m : Machine) (origin : List ℕ) (w : Marks) → acked_marks m (ClearOrigin origin) w ≡ marks_of (step m (ClearOrigin origin)).next
unfolding checks effect
clearing_settles m origin w = refl

-- it was performed, or failed amid
module _ (origin : List ℕ) (h : History) (before now : Session) (keeps : KeepsTo before h) (tells : Tells before h.machine) where
  module _ (d : Command) (is : IsDoneFor (Tells before h.machine) (ClearOrigin origin) h.machine d) where
    settled : (acked d h).marks ≡ marks_of (step h.machine (ClearOrigin origin)).next
    settled = (done_same (Tells before h.machine) tells (ClearOrigin origin) h.machine d is).ends h.marks ∙ clearing_settles h.machine origin h.marks

    all_cleared : (t : State) → IsSafe t (acked d h).marks → LeavesNoneOrAll origin h.marks t
    all_cleared t safe = record {
      before = before.disk;
      safe = safe_is_crash_safe before.disk h.marks keeps.stands.crash_kept.safe;
      images = λ image is.
          let left = safe_is_crash_safe t (marks_of (step h.machine (ClearOrigin origin)).next) (subst (IsSafe t) settled safe) image is in
          NoneIsLeft (λ key v at. false_from_ne_true (covers (value_hash origin) v.key v.header) (none_left h.machine origin key v (sym (left.untouched key refl) ∙ at)));
    }

    pub cleared_by : (answer : Result Verdict StoreFault) (came : Status) → ClearsUnderMark (value_hash origin) before now.disk → KeepsHistory d h answer now → (IsClosing came → HadEffect answer) → MayHaveCleared origin h.marks came now
    cleared_by answer came clears kept had = record {
      stopped = record {
        before = before.disk;
        safe = safe_is_crash_safe before.disk h.marks keeps.stands.crash_kept.safe;
        images = stopped_clearing_is_none_or_all origin before now.disk h keeps tells clears;
      };
      closed = λ closing. (acked d h, (settles answer kept (had closing), all_cleared));
    }
      where
        settles : (answer : Result Verdict StoreFault) → KeepsHistory d h answer now → HadEffect answer → KeepsTo now (acked d h)
        settles (Ok v) kept had = kept.next
        settles (Err f) kept had = kept.effect had

-- a session goes on after a command only where that had its effect
pub closes_after : (f : StoreFault) → IsClosing (status_in (Err f)) → f ≡ fault.Sink
closes_after fault.Memory closing = absurd closing
closes_after fault.Disk closing = absurd closing
closes_after fault.Sink closing = refl

-- what is said of an origin where the disk tells
pub with_told : {T : Type 0} (o : Option ℕ) (P : ℕ → Type 0) → T → IfSome o (λ origin. T → P origin) → IfSome o P
with_told None P told said = tt
with_told (Some origin) P told said = said told
