-- What is kept of the places once all was synced.
use Rattle.std.proofs.Common.{◌≡◌, ◌⊎◌, sym, ap, subst, ◌∙◌, inl, inr, Some, None, Result, Ok, Err, OnOk, OnErr, [], option_map}
use Rattle.std.proofs.lemmas.Bool.{cases_Bool}
use Rattle.std.proofs.lemmas.Map.Views.{tells_apart}
use Rattle.std.specs.BTreeMap.{is_at}
use Rattle.std.specs.Map.{lookup}
use Rattle.disk_theory.specs.declared.place.Place.{Place}
use Rattle.disk_theory.specs.contracts.place.PlaceOrd.TheImpl as place_ord
use Rattle.disk_theory.proofs.Places.{places_apart}
use Rattle.pending_syncs.specs.declared.kept.Kept.{Kept}
use Rattle.pending_syncs.specs.declared.kept.Opened.{Opened}
use Rattle.pending_syncs.specs.Kept.{opened_at, file_at, SameFiles, Closes, ClosesElsewhere, IsIdle}

-- of what was kept, one file alone is put back
module _ {F T E : Type 0} (r : Result T E) (before mid now : Kept F) (place : Place) (opened synced : Opened F) where
  pub one_kept : opened_at before place ≡ Some opened → synced.file ≡ opened.file → mid.files.entries ≡ []
      → OnOk r (opened_at now place ≡ Some synced) → OnErr r (opened_at now place ≡ None) → ClosesElsewhere IsIdle place mid now → SameFiles before now
  one_kept was same empty kept closed others = λ q.
      elim (cases_Bool (is_at (place_ord.ghosts.cmp place) q)) [
        | inl tied ↦ subst (λ (p : Place). (file_at now p ≡ file_at before p) ⊎ (file_at now p ≡ None)) (tells_apart places_apart place q tied) (here r kept closed)
        | inr apart ↦ inr (ap (option_map (λ (o : Opened F). o.file)) (gone q (others q apart)))
      ]
    where
      here : (s : Result T E) → OnOk s (opened_at now place ≡ Some synced) → OnErr s (opened_at now place ≡ None) → (file_at now place ≡ file_at before place) ⊎ (file_at now place ≡ None)
      here (Ok value) k c = inl (ap (option_map (λ (o : Opened F). o.file)) k ∙ ap Some same ∙ sym (ap (option_map (λ (o : Opened F). o.file)) was))
      here (Err error) k c = inr (ap (option_map (λ (o : Opened F). o.file)) c)

      gone : (q : Place) → Closes IsIdle q mid now → opened_at now q ≡ None
      gone q (inl is) = is ∙ ap (lookup (is_at (place_ord.ghosts.cmp q))) empty
      gone q (inr is) = is.0
