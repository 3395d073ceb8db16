-- Where no object is in use under a name its file is removed, if there is one, or the disk failed on the way.
use Rattle.std.proofs.Common.{◌≡◌, ◌⊎◌, inl, inr, Bool, None, Result, Ok, Err, true, IsTrue, sym, ap, subst, ◌∙◌}
use Rattle.std.specs.List.{position}
use Rattle.std.specs.Result.{IsErr}
use Rattle.std.proofs.lemmas.Result.{IfOk-from_err}
use Rattle.cache_base.specs.declared.name.Name.{Name}
use Rattle.cache_theory.specs.Crash.{IsSafe}
use Rattle.cache_theory.specs.History.{History}
use Rattle.cache_theory.specs.Marks.{is_touched}
use Rattle.cache_theory.specs.Step.{doomed_under}
use Rattle.cache_theory.proofs.CrashImages.DiskChanges.{remove_keeps}
use Rattle.cache_theory.proofs.ObjectLaws.Dooming.{unshelved_under}
use Rattle.cache_theory.proofs.CrashImages.FiledOnce.{one_name as one_place}
use Rattle.disk_theory.specs.Calls.{if_done}
use Rattle.disk_theory.specs.declared.disk.DiskFault.{DiskFault}
use Rattle.disk_theory.specs.declared.disk.DiskFault.TheVariants.{Failed, Memory}
use Rattle.disk_theory.specs.declared.place.Place.TheVariants.{Entry}
use Rattle.disk_theory.specs.State.{State, removed, standing}
use Rattle.file_handles.specs.Cache.{cache_at}
use Rattle.file_handles.specs.Dooming.{DoomsUnder}
use Rattle.handle_table.specs.Finding.{is_user}
use Rattle.handle_table.specs.Kept.{Kept}
use Rattle.file_handles.specs.Stands.{KeepsWhere}
use Rattle.file_handles.specs.declared.fault.HandleFault.{HandleFault}
use Rattle.file_handles.proofs.Dooming.DoomedBut.{IsInBut, none_in, removed_in, undoomed_but}
use Rattle.file_handles.proofs.Histories.{history_of}
use Rattle.handle_table.proofs.User.{no_user_there}

module _ (s t : State) (k : Kept) (name : Name) (bare : position (is_user name) k.objects ≡ None) where
  module _ {b : Bool} (h : History) (touched : is_touched h.marks name.0 ≡ true) (stand : KeepsWhere b (cache_at k s) h) where
    but : IsInBut b name.0 s k (doomed_under h.machine name.0) h.marks
    but = undoomed_but name.0 s k h.machine h.marks (no_user_there k h.machine stand.number stand.stands.proper stand.stands.handles name bare) stand

    safe_or_not : (t ≡ removed (Entry name) s) ⊎ (t ≡ s) → IsTrue b → IsSafe t h.marks
    safe_or_not either on = elim either [
      | inl gone ↦ subst (λ u. IsSafe u h.marks) (sym gone)
          (remove_keeps s h.marks (Entry name) (λ q e. inl (ap (is_touched h.marks) (sym (one_place name.0 q e)) ∙ touched)) (stand.crash_kept on).safe)
      | inr same ↦ subst (λ u. IsSafe u h.marks) (sym same) (stand.crash_kept on).safe
    ]

    gone_in : (t ≡ removed (Entry name) s) ⊎ ((t ≡ s) × (standing s (Entry name) ≡ None)) → KeepsWhere b (cache_at k t) (history_of (doomed_under h.machine name.0) h.marks)
    gone_in done = elim done [
      | inl gone ↦ subst (λ u. KeepsWhere b (cache_at k u) (history_of (doomed_under h.machine name.0) h.marks)) (sym gone)
          (removed_in name s k (doomed_under h.machine name.0) h.marks (unshelved_under h.machine name.0) touched but)
      | inr none ↦ subst (λ u. KeepsWhere b (cache_at k u) (history_of (doomed_under h.machine name.0) h.marks)) (sym none.0)
          (none_in name s k (doomed_under h.machine name.0) h.marks (unshelved_under h.machine name.0) touched none.1 but)
    ]

  pub gone_fails : {T : Type 0} (answer : Result T HandleFault) → IsErr answer → (t ≡ removed (Entry name) s) ⊎ (t ≡ s) → DoomsUnder name.0 answer (cache_at k s) (cache_at k t)
  gone_fails answer failed either = record {
    leaves = λ crash h touched stand. record {
      safe = safe_or_not h touched stand either;
      next = IfOk-from_err answer (λ done. KeepsWhere crash (cache_at k t) (history_of (doomed_under h.machine name.0) h.marks)) failed;
    };
  }

  pub gone_done : {T : Type 0} (value : T) → (t ≡ removed (Entry name) s) ⊎ ((t ≡ s) × (standing s (Entry name) ≡ None)) → DoomsUnder {T = T} {E = HandleFault} name.0 (Ok value) (cache_at k s) (cache_at k t)
  gone_done value done = record {
    leaves = λ crash h touched stand.
        let keeps = gone_in h touched stand done in
        record { safe = λ on. (keeps.crash_kept on).safe; next = keeps };
  }

-- where its removal failed it may be gone
pub gone_or_not : (s t : State) (name : Name) (f : DiskFault) → t ≡ if_done {T = Unit {0}} (Err f) (removed (Entry name) s) s → (t ≡ removed (Entry name) s) ⊎ (t ≡ s)
gone_or_not s t name Failed is = inl is
gone_or_not s t name Memory is = inr is

-- The same after a call that left all as it was.
module _ {D : Type 0} (state : D → State) (d e : D) (t : State) (k after : Kept) (name : Name) (bare : position (is_user name) k.objects ≡ None) (same : e ≡ d) (still : after ≡ k) where
  pub gone_fails_by : {T : Type 0} (answer : Result T HandleFault) → IsErr answer → (t ≡ removed (Entry name) (state e)) ⊎ (t ≡ state e) → DoomsUnder name.0 answer (cache_at k (state d)) (cache_at after t)
  gone_fails_by answer failed either =
      subst (λ a. DoomsUnder name.0 answer (cache_at k (state d)) (cache_at a t)) (sym still)
      (gone_fails (state d) t k name bare answer failed (subst (λ x. (t ≡ removed (Entry name) (state x)) ⊎ (t ≡ state x)) same either))

  pub gone_done_by : {T : Type 0} (value : T) → (t ≡ removed (Entry name) (state e)) ⊎ ((t ≡ state e) × (standing (state e) (Entry name) ≡ None)) → DoomsUnder {T = T} {E = HandleFault} name.0 (Ok value) (cache_at k (state d)) (cache_at after t)
  gone_done_by {T} value done =
      subst (λ a. DoomsUnder {T = T} {E = HandleFault} name.0 (Ok value) (cache_at k (state d)) (cache_at a t)) (sym still)
      (gone_done (state d) t k name bare value (subst (λ x. (t ≡ removed (Entry name) (state x)) ⊎ ((t ≡ state x) × (standing (state x) (Entry name) ≡ None))) same done))
