-- What a session leaves that began with what is done for `Resume`, by how it ended.
use Rattle.std.proofs.Common.{◌≡◌, ◌∙◌, ℕ, List, [], ◌∷◌, length, refl, sym, ap, subst, inl, inr, arith}
use Rattle.std.proofs.lemmas.List.{take_all}
use Rattle.cache_base.specs.declared.status.Status.{Status}
use Rattle.cache_store.specs.DoneFor.{IsDoneBy, IsOfShelf, IsResumedBy}
use Rattle.cache_store.specs.Open.{IsHonest, IsShut, OpensHonestly, StartsOn, Tells}
use Rattle.cache_store.specs.Performing.{GoesBy, SaysThere}
use Rattle.cache_store.specs.Session.{Session}
use Rattle.cache_store.proofs.Performing.Represented.{represents}
use Rattle.cache_theory.specs.Command.{Command}
use Rattle.cache_theory.specs.Crash.{IsSafe}
use Rattle.cache_theory.specs.History.{History, acked, settled_at}
use Rattle.cache_theory.specs.Machine.{Machine}
use Rattle.cache_theory.specs.Marks.{Marks, all_begun}
use Rattle.cache_theory.specs.Step.{after, step}
use Rattle.cache_theory.proofs.CrashImages.Crashes.{safe_is_crash_safe}
use Rattle.cache_tool.specs.Beginning.{AreAtOpening, AreOnResumed, BeginsRun}
use Rattle.cache_tool.specs.Ending.{EndsSession}
use Rattle.cache_tool.specs.PutProgress.{all_unanswered}
use Rattle.cache_tool.specs.Right.{LeadTo}
use Rattle.cache_tool.specs.Statuses.{IsClosing}
use Rattle.cache_tool.specs.Verbs.{LeavesDisk, Reach, all_begun_none_acked}
use Rattle.cache_tool.proofs.Dated.{dated_whole}
use Rattle.cache_tool.proofs.DoneLaws.{done_on_resumed, resumed_at_opening}
use Rattle.cache_tool.proofs.EntryLooks.{nothing_to_read, opened_to_read}
use Rattle.cache_tool.proofs.RightLaws.{leads_on, opened_right}
use Rattle.cache_tool.proofs.StatusLaws.{EndsAs, closes_or_not, closing_same}
use Rattle.cache_tool.proofs.StayingLaws.{stays_whole}
use Rattle.context_clear.specs.Mark.{mark_of}
use Rattle.disk_theory.specs.Listing.{IsFinite}
use Rattle.disk_theory.specs.Sound.{IsQuiet}
use Rattle.disk_theory.specs.State.{State, standing}
use Rattle.index_theory.specs.Honest.{Honest, LeavesHonest}

-- the store was not closed
pub stops_leave : (m : Machine) (r : Reach) (ended : Status) (s t : State) → ¬ (IsClosing ended) → (IsQuiet s → IsSafe t r.marks) → OpensHonestly s t → LeavesDisk m r ended s t
stops_leave m r ended s t still safe images = record {
  shut = λ closing. absurd (still closing);
  honest = λ closing right. absurd (still closing);
  crash = λ quiet. safe_is_crash_safe t r.marks (safe quiet);
  images = images;
  journal = λ closing over. absurd (still closing);
  index = λ closing. absurd (still closing);
  untrusted = λ closing. absurd (still closing);
  dated = λ closing. absurd (still closing);
}

-- another end, which closes where this one does
pub leaves_at : (m : Machine) (r : Reach) (ended final : Status) (s t : State) → (IsClosing final → IsClosing ended) → LeavesDisk m r ended s t → LeavesDisk m r final s t
leaves_at m r ended final s t closes leaves = record {
  shut = λ closing. leaves.shut (closes closing);
  honest = λ closing. leaves.honest (closes closing);
  crash = leaves.crash;
  images = leaves.images;
  journal = λ closing. leaves.journal (closes closing);
  index = λ closing. leaves.index (closes closing);
  untrusted = λ closing. leaves.untrusted (closes closing);
  dated = λ closing. leaves.dated (closes closing);
}

module _ {moment : ℕ} (s : State) (mid : Session) (begins : BeginsRun moment s mid) (m : Machine) (is : StartsOn moment s m) where
  -- this was done for `Resume`, and here the session goes on
  abbrev pub first_done : Command
  first_done = (begins.resumed m is).done

  abbrev pub resumed_at : History
  resumed_at = acked (begins.resumed m is).done (settled_at m)

  -- and this was done by the records of the opening
  pub resumed_done : IsFinite s → IsResumedBy (AreAtOpening s m) (mark_of m.mark) m (begins.resumed m is).done
  resumed_done finite = resumed_at_opening s begins.first m (begins.opens.tells m is) begins.begins (opened_to_read moment s begins.first finite begins.opens) first_done (begins.resumed m is).is_done

  -- what is done next goes by what the records of the opening were
  pub next_done : IsFinite s → (c e : Command) → let next = (step m (begins.resumed m is).done).next in IsDoneBy (GoesBy mid next) (SaysThere mid next) c next e
      → IsDoneBy (AreOnResumed s m (begins.resumed m is).done) (IsOfShelf (Honest (standing s)) next) c next e
  next_done finite c e so =
      let resumed = begins.resumed m is in
      done_on_resumed s begins.first m (begins.opens.tells m is) begins.begins (opened_to_read moment s begins.first finite begins.opens) mid resumed.done (represents (begins.opens.keeps m is))
      (nothing_to_read moment s mid finite begins) resumed.is_done resumed.records (λ honest. resumed.leads.tells (inl (begins.opens.tells m is honest))) c e so

  -- what leads on from there leads on from the opening
  pub leads_from : (cs : List Command) (last : Session) (h : History) → LeadTo cs mid (step m (begins.resumed m is).done).next last h → LeadTo ((begins.resumed m is).done ∷ cs) begins.first m last h
  leads_from cs last h leads = leads_on (first_done ∷ []) cs begins.first m mid resumed_at last h refl (begins.resumed m is).leads leads

  -- the records are right there where the directory was honest
  pub resumed_tells : Honest (standing s) → Tells mid (step m (begins.resumed m is).done).next
  resumed_tells honest = (begins.resumed m is).leads.tells (inl (begins.opens.tells m is honest))

  module _ (last : Session) (t : State) (ended : Status) (ends : EndsSession ended last t) where
    -- these commands led to a history, whose marks allow no more than these
    pub ends_leave : (cs : List Command) (w : Marks) (h : History) → LeadTo cs mid (step m (begins.resumed m is).done).next last h → h.machine ≡ after (step m (begins.resumed m is).done).next cs
        → ((x : State) → IsSafe x h.marks → IsSafe x w) → LeavesDisk m (record { done = (begins.resumed m is).done ∷ cs; marks = w }) ended s t
    ends_leave cs w h leads same allows =
        let all = leads_from cs last h leads in
        let end = ends.each h leads.keeps in
        record {
          shut = λ closing. subst (λ x. IsShut t x) same (end.shut closing);
          honest = λ closing right. subst (λ x. IsHonest t x) same (end.honest closing (all.tells (opened_right begins.opens is (first_done ∷ cs) right)));
          crash = λ quiet. safe_is_crash_safe t w (allows t end.safe);
          images = λ quiet honest. end.images (all.tells (inl (begins.opens.tells m is honest)));
          journal = λ closing over. end.journal closing (ap (λ (x : Machine). x.rest) same ∙ over);
          index = stays_whole s t m begins.first last (first_done ∷ cs) h ended begins.opens is begins.based all end same;
          untrusted = λ closing rest. end.untrusted closing (λ none. rest (ap (λ (x : Machine). x.rest) (sym same) ∙ none));
          dated = λ closing. dated_whole m h.machine (first_done ∷ cs) s begins.first.disk last.disk t same begins.same all.dated (end.dated closing);
        }

    -- all of them have begun, and none is acknowledged
    abbrev begun_marks : List Command → Marks
    begun_marks cs = all_begun (step m (begins.resumed m is).done).next cs (acked (begins.resumed m is).done (settled_at m)).marks

    begun_reach : (cs : List Command) → LeavesDisk m (record { done = (begins.resumed m is).done ∷ cs; marks = begun_marks cs }) ended s t → LeavesDisk m (all_begun_none_acked m (begins.resumed m is).done cs) ended s t
    begun_reach cs leaves =
        subst (λ w. LeavesDisk m (record { done = first_done ∷ cs; marks = w }) ended s t) (ap begun_marks (sym (take_all (length cs) cs (omega arith)))) leaves

    pub begun_leave : (cs : List Command) (came : Status) → EndsAs ended came → (¬ (IsClosing came) → t ≡ last.disk) → LeavesHonest last.disk
        → IsSafe last.disk (all_unanswered cs (acked (begins.resumed m is).done (settled_at m))).marks
        → (IsClosing came → LeadTo cs mid (step m (begins.resumed m is).done).next last (all_unanswered cs (acked (begins.resumed m is).done (settled_at m))))
        → LeavesDisk m (all_begun_none_acked m (begins.resumed m is).done cs) ended s t
    begun_leave cs came same dropped kept safe stands = begun_reach cs (elim (closes_or_not came) [
      | inl closing ↦ ends_leave cs (begun_marks cs) (all_unanswered cs resumed_at) (stands closing) refl (λ x is_safe. is_safe)
      | inr still ↦ stops_leave m (record { done = first_done ∷ cs; marks = begun_marks cs }) ended s t (λ closing. still (subst IsClosing (closing_same ended came same closing) closing))
          (λ quiet. subst (λ x. IsSafe x (begun_marks cs)) (sym (dropped still)) safe) (λ quiet honest. subst LeavesHonest (sym (dropped still)) kept)
    ])
