-- How a run begins: the store opened, and a clearing was resumed.
use Rattle.std.proofs.Common.{◌≡◌, inl, inr, ℕ, List, Option, None, Some, Result, Ok, Err, refl, sym, subst, ap, ◌∙◌}
use Rattle.std.specs.Prelude.{IfSome, OnErr}
use Rattle.cache_store.specs.AtClear.{ChangesAtClear}
use Rattle.cache_store.specs.Clearing.{LeavesResumed}
use Rattle.cache_store.specs.DoneFor.{IsResumedBy}
use Rattle.cache_store.specs.InUse.{IsSameIndex, OpensInUse}
use Rattle.cache_store.specs.Open.{BeginsOn, Opens, OpensHonestly, StartsOn, Tells}
use Rattle.cache_store.specs.Performing.{GoesBy, PerformsFor}
use Rattle.cache_store.specs.Session.{Session}
use Rattle.cache_store.specs.StoppedClearing.{ClearsUnderMark}
use Rattle.cache_store.specs.declared.fault.StoreFault.{StoreFault}
use Rattle.cache_replies.specs.declared.verdict.Verdict.{Verdict}
use Rattle.cache_store.proofs.Clearing.StoppedResume.{stopped_resume_keeps_mark}
use Rattle.cache_store.proofs.Performing.Represented.{represents}
use Rattle.cache_store.proofs.Sessions.Opened.{starts_on}
use Rattle.cache_theory.specs.Command.{Command}
use Rattle.cache_theory.specs.Command.Command.{Resume}
use Rattle.cache_theory.specs.Crash.{IsSafe}
use Rattle.cache_theory.specs.History.{History, acked, begun, settled_at}
use Rattle.cache_theory.specs.Machine.{Machine}
use Rattle.cache_theory.specs.Marks.{marks_of}
use Rattle.cache_tool.specs.Beginning.{BeginsRun, FailsToBegin}
use Rattle.cache_tool.specs.Staying.{StaysFor}
use Rattle.cache_tool.proofs.DoneLaws.{done_right, resumed_at_opening}
use Rattle.cache_tool.proofs.EntryLooks.{mark_opened, opened_to_read}
use Rattle.cache_tool.proofs.MarkLeft.{opened_changes_mark, resumed_changes_mark}
use Rattle.cache_tool.proofs.RightLaws.{leads_one}
use Rattle.cache_tool.proofs.StayingLaws.{stays_done}
use Rattle.context_clear.specs.Mark.{mark_of}
use Rattle.context_clear.proofs.MarkLaws.{mark_read}
use Rattle.disk_theory.specs.Image.{Files, IsImage}
use Rattle.disk_theory.specs.Listing.{IsFinite}
use Rattle.disk_theory.specs.Sound.{IsQuiet}
use Rattle.disk_theory.specs.State.{State, standing}
use Rattle.disk_theory.specs.declared.place.Place.TheVariants.{Clear}
use Rattle.index_record.specs.declared.record.IndexRecord.{IndexRecord}
use Rattle.index_theory.specs.AtClear.{KeepsClear}
use Rattle.index_theory.proofs.AtClearLaws.{image_may_be_at_clear, quiet_is_at_clear}
use Rattle.index_theory.specs.Honest.{LeavesHonest}

-- what is said of a fault is said of its answer
pub on_err : {T : Type 0} (answer : Result T StoreFault) (P : Type 0) → P → OnErr answer P
on_err (Ok x) P holds = tt
on_err (Err f) P holds = holds

-- what is done for `Resume` settles nothing: it is acknowledged where it has begun
resumed_acked : (Holds : List IndexRecord → Type 0) (mark : Option ℕ) (h : History) (d : Command) → IsResumedBy Holds mark h.machine d → (begun d h).marks ≡ (acked d h).marks
resumed_acked Holds None h d is = subst (λ c. (begun c h).marks ≡ (acked c h).marks) (sym is) refl
resumed_acked Holds (Some origin) h d is = subst (λ c. (begun c h).marks ≡ (acked c h).marks) (sym is.1.0) refl

-- with nothing pending, what stood at `clear` stands in each image
kept_image : (s t : State) → IsQuiet s → KeepsClear s t → (image : Files) → IsImage t image → image Clear ≡ standing s Clear
kept_image s t quiet kept image of = elim (kept.found (image Clear) (image_may_be_at_clear t image kept.apart of)) [
  | inl before ↦ quiet_is_at_clear s (image Clear) quiet before
  | inr new ↦ absurd new
]

-- the store did not open
pub never_opened : (moment : ℕ) (s t : State) → OpensHonestly s t → (IsQuiet s → KeepsClear s t) → ((m : Machine) → StartsOn moment s m → IsQuiet s → IsSafe t (marks_of m)) → FailsToBegin moment s t
never_opened moment s t images kept safe = record {
  images = images;
  mark = opened_changes_mark s t kept;
  clearing = λ origin marked quiet honest image of. inl (kept_image s t quiet (kept quiet) image of ∙ marked.1);
  crash = λ m is. inl (safe m is);
}

module _ (moment : ℕ) (s : State) (first now : Session) (finite : IsFinite s) (opens : Opens moment s first) (begins : BeginsOn (standing s) first.open_store.index.map) (taken later : Option (List ℕ))
    (opened : IsQuiet s → KeepsClear s first.disk) (resumed : ChangesAtClear Resume first.disk now.disk) where
  -- a mark that stands once more after the opening stood before it
  stood : standing first.disk Clear ≡ standing s Clear
  stood =
      let (m, is) = starts_on moment s finite in
      sym (mark_opened moment s first opens m is) ∙ ap (λ (x : Machine). x.mark) is.is_opened

  -- the clearing failed
  pub resume_fails : (answer : Result Verdict StoreFault) → PerformsFor Resume answer first now taken later → LeavesHonest now.disk
      → IfSome (mark_of (standing first.disk Clear)) (λ origin. ClearsUnderMark origin first now.disk) → FailsToBegin moment s now.disk
  resume_fails answer performs kept clears = record {
    images = λ quiet honest. kept;
    mark = resumed_changes_mark s first.disk now.disk stood opened resumed;
    clearing = λ origin marked quiet honest.
        let (m, is) = starts_on moment s finite in
        let there : mark_of (standing first.disk Clear) ≡ Some origin = ap mark_of (stood ∙ marked.1) ∙ (mark_read origin marked.0).1 in
        stopped_resume_keeps_mark origin first now.disk m (represents (opens.keeps m is)) (opens.tells m is honest) (marked.0, ap (λ (x : Machine). x.mark) is.is_opened ∙ marked.1)
        (λ image of. kept_image s first.disk quiet (opened quiet) image of ∙ marked.1)
        (subst (λ o. IfSome o (λ x. ClearsUnderMark x first now.disk)) there clears);
    crash = λ m is.
        let keeps = opens.keeps m is in
        let does = performs.crash (settled_at m) keeps in
        inr (
          does.0,
          (
            resumed_at_opening s first m (opens.tells m is) begins (opened_to_read moment s first finite opens) does.0 does.1.0,
            subst (IsSafe now.disk) (resumed_acked (GoesBy first m) (mark_of m.mark) (settled_at m) does.0 does.1.0) does.1.1.keeps.safe,
          ),
        );
  }

  -- it was done
  pub resume_done : (o : Verdict) → OpensInUse s first.open_store.index.map first.disk → IsSameIndex s first.disk → PerformsFor Resume (Ok o) first now taken later → StaysFor {T = Verdict} Resume (Ok o) first now
      → LeavesResumed (mark_of (standing first.disk Clear)) first now.open_store.index → BeginsRun moment s now
  resume_done o based same performs stays left = record {
    first = first;
    opens = opens;
    based = based;
    begins = begins;
    same = same;
    mark = resumed_changes_mark s first.disk now.disk stood opened resumed;
    resumed = λ m is.
        let keeps = opens.keeps m is in
        let does = performs.crash (settled_at m) keeps in
        record {
          done = does.0;
          is_done = does.1.0;
          leads = leads_one does.0 first m now (acked does.0 (settled_at m)) does.1.1.keeps.next (does.1.1.performs.tells tt)
              (stays_done (Tells first m) Resume first m now does.0 (done_right first Resume m does.0 does.1.0) (stays m (represents keeps) tt));
          records = subst (λ x. LeavesResumed (mark_of x) first now.open_store.index) (sym (mark_opened moment s first opens m is)) left;
        };
  }
