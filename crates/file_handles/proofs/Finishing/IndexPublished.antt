-- A file that is moved to an entry's place right after a sync leaves the index alone.
use Rattle.std.proofs.Common.{◌≡◌, ◌≢◌, inl, inr, ℕ, Some, None, subst, ◌∙◌}
use Rattle.cache_base.specs.declared.name.Name.{Name}
use Rattle.disk_theory.specs.Sound.{IsSound}
use Rattle.disk_theory.specs.State.{State, names_now, renamed, settled, with_name}
use Rattle.disk_theory.specs.declared.place.Place.{Place}
use Rattle.disk_theory.specs.declared.place.Place.TheVariants.{Clear, Doomed, Entry, Index, Log, Tmp}
use Rattle.disk_theory.proofs.Sound.{found}
use Rattle.disk_theory.proofs.Standing.{settled_same}
use Rattle.index_theory.specs.Apart.{IsEntry, IsOfIndex}
use Rattle.index_theory.specs.Ever.{EverAt}
use Rattle.index_theory.specs.Leaves.{LeavesBeside, LeavesIndex}
use Rattle.index_theory.proofs.AtClearLaws.{both_keep_clear, rename_keeps_clear, sync_keeps_clear}
use Rattle.index_theory.proofs.EverSteps.{ever_renamed, ever_settled}
use Rattle.index_theory.proofs.LeavesLaws.{moved_stands, sync_leaves_index}
use Rattle.index_theory.proofs.UncleanLaws.{move_keeps_unclean}

-- no place of the index is an entry's
index_no_entry : (q : Place) → IsOfIndex q → IsEntry q → ⊥
index_no_entry (Entry n) of is = of
index_no_entry (Doomed n) of is = of
index_no_entry Index of is = is
index_no_entry Log of is = is
index_no_entry Tmp of is = is
index_no_entry Clear of is = of

module _ (s : State) (d : ℕ) (name : Name) (sound : IsSound s) where
  abbrev moved : State
  moved = renamed (Doomed d) (Entry name) (settled s)

  -- the file that moves stands nowhere else, nor did it since the sync
  only_there : (p : Place) (file : ℕ) → p ≢ Doomed d → names_now s (Doomed d) ≡ Some file → names_now s p ≡ Some file → ⊥
  only_there p file apart there also = apart (sound.one_place 0 p (Doomed d) file also there)

  apart_from : (p : Place) → IsOfIndex p → p ≢ Doomed d
  apart_from p of e = subst IsOfIndex e of

  -- what stood at a place of the index stood there at the sync
  stood : (p : Place) (file : ℕ) → IsOfIndex p → EverAt moved p file → names_now s p ≡ Some file
  stood p file of at = elim (ever_renamed (settled s) (Doomed d) (Entry name) p file at) [
    | inl new ↦ absurd (subst IsOfIndex new.0 of)
    | inr old ↦ ever_settled s p file old
  ]

  entries : (p q : Place) (file : ℕ) → IsOfIndex p → IsEntry q → EverAt moved p file → EverAt moved q file → ⊥
  entries p q file of is at also =
      let here = stood p file of at in
      elim (ever_renamed (settled s) (Doomed d) (Entry name) q file also) [
        | inl new ↦ only_there p file (apart_from p of) new.1 here
        | inr old ↦ index_no_entry q (subst IsOfIndex (sound.one_place 0 p q file here (ever_settled s q file old)) of) is
      ]

  index : (p : Place) (file : ℕ) → names_now moved p ≡ Some file → EverAt moved Index file → p ≡ Index
  index p file now at =
      let here = stood Index file tt at in
      elim (found (Doomed d) p None (Some file) (with_name (Entry name) (names_now s (Doomed d)) (names_now s)) now) [
        | inl gone ↦ absurd (cc gone.1)
        | inr kept ↦ elim (found (Entry name) p (names_now s (Doomed d)) (Some file) (names_now s) kept.0) [
          | inl new ↦ absurd (only_there Index file (λ e. cc) new.1 here)
          | inr old ↦ sound.one_place 0 p Index file old.0 here
        ]
      ]

  published_leaves_index : LeavesIndex s (renamed (Doomed d) (Entry name) (settled s))
  published_leaves_index = record {
    stands = λ p of. moved_stands (settled s) (Doomed d) (Entry name) p (apart_from p of) (λ e. subst IsOfIndex e of) ∙ settled_same s p;
    apart = λ a. record { entries = entries; index = index };
    unclean = λ a u. move_keeps_unclean (settled s) (Doomed d) (Entry name) (λ e. cc) (λ e. cc) ((sync_leaves_index s sound).unclean a u);
  }

  pub published_leaves_beside : LeavesBeside s (renamed (Doomed d) (Entry name) (settled s))
  published_leaves_beside = record {
    index = published_leaves_index;
    mark = moved_stands (settled s) (Doomed d) (Entry name) Clear (λ e. cc) (λ e. cc) ∙ settled_same s Clear;
    clear = λ a.
        let synced = sync_keeps_clear s a in
        both_keep_clear s (settled s) moved synced (rename_keeps_clear (settled s) (Doomed d) (Entry name) (λ e. cc) (λ e. cc) synced.apart);
  }
