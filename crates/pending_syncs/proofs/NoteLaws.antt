-- A note that is made for a step and taken back.
use Rattle.std.proofs.Common.{◌≡◌, sym, ◌∙◌, false, inl, inr}
use Rattle.std.proofs.lemmas.Bool.{cases_Bool, false≢true}
use Rattle.std.proofs.lemmas.Map.Steps.{list_any_congr}
use Rattle.std.specs.BTreeSet.{contains}
use Rattle.std.specs.BTreeMap.{is_at}
use Rattle.std.specs.Cmp.{IsTotalOrder, eq_by_cmp_equiv}
use Rattle.disk_theory.specs.declared.place.Place.{Place}
use Rattle.disk_theory.specs.contracts.place.PlaceOrd.TheImpl as place_ord
use Rattle.disk_theory.specs.contracts.place.PlaceOrd.TheImpl.Laws.{total-law}
use Rattle.pending_syncs.specs.Files.{FileNotes, KeepsAll, KeepsOthers}

places_total : IsTotalOrder place_ord.ghosts.cmp
places_total = total-law

-- the place had no note, and those of other places stay
pub taken_back : (before mid now : FileNotes) (to : Place) → contains place_ord.ghosts.cmp before to ≡ false
    → KeepsOthers to before mid → KeepsOthers to mid now → KeepsAll before now
taken_back before mid now to absent made back = λ place noted.
    elim (cases_Bool (is_at (place_ord.ghosts.cmp to) place)) [
      | inl same ↦ absurd (false≢true (sym absent ∙ list_any_congr (eq_by_cmp_equiv places_total) to place before.keys same ∙ noted))
      | inr apart ↦ back place apart ∙ made place apart ∙ noted
    ]
