-- What is kept of the places once one file was closed.
use Rattle.std.proofs.Common.{◌≡◌, subst, inl, inr, Option, Some, None, IfSome, false}
use Rattle.std.proofs.lemmas.Bool.{cases_Bool}
use Rattle.std.proofs.lemmas.Map.Views.{tells_apart}
use Rattle.std.specs.BTreeMap.{is_at}
use Rattle.disk_theory.specs.declared.place.Place.{Place}
use Rattle.disk_theory.specs.contracts.place.PlaceOrd.TheImpl as place_ord
use Rattle.disk_theory.proofs.Places.{places_apart}
use Rattle.pending_syncs.specs.declared.kept.Kept.{Kept}
use Rattle.pending_syncs.specs.declared.kept.Opened.{Opened}
use Rattle.pending_syncs.specs.Kept.{opened_at, waits, waits_at, Closes, ClosesAll, IsIdle, SameElsewhere}

module _ {F : Type 0} where
  -- one file that may be closed is
  pub closes_one : (P : Opened F → Type 0) (before now : Kept F) (place : Place) → IfSome (opened_at before place) P
      → opened_at now place ≡ None → SameElsewhere place before now → ClosesAll P before now
  closes_one P before now place may gone others = λ q.
      elim (cases_Bool (is_at (place_ord.ghosts.cmp place) q)) [
        | inl tied ↦ subst (λ (p : Place). Closes P p before now) (tells_apart places_apart place q tied) (inr (gone, may))
        | inr apart ↦ inl (others q apart)
      ]

  waits_not : (o : Option (Opened F)) → waits o ≡ false → IfSome o IsIdle
  waits_not (Some opened) is = is
  waits_not None is = tt

  -- so is one that waits for no sync
  pub closes_idle : (before now : Kept F) (place : Place) → waits_at before place ≡ false
      → opened_at now place ≡ None → SameElsewhere place before now → ClosesAll IsIdle before now
  closes_idle before now place idle = closes_one IsIdle before now place (waits_not (opened_at before place) idle)
