-- What an opening of the index leaves of the entries, also where changes are pending when it begins.
use Rattle.std.proofs.Common.{◌≡◌, ◌∙◌, ℕ, List, refl, sym, ap, subst}
use Rattle.cache_theory.specs.Ever.{entry_place}
use Rattle.disk_theory.specs.Sound.{IsSound}
use Rattle.disk_theory.specs.State.{State, standing}
use Rattle.disk_theory.specs.declared.place.Place.{Place}
use Rattle.disk_theory.proofs.Standing.{settled_same}
use Rattle.index_theory.specs.Apart.{IsOfIndex}
use Rattle.index_theory.specs.Ever.{entries_on}
use Rattle.startup_read.specs.Opening.{IsAmidOpening, OpeningMoment, marked, opened, opening_at, set_aside}
use Rattle.startup_read.specs.Opening.OpeningMoment.{Aside, Begun, Cleared, Marked, Synced}
use Rattle.startup_read.specs.Spares.{SparesEntries}
use Rattle.startup_read.proofs.OpeningLaws.{aside_stands, marked_stands, sound_aside, spares_cleared}
use Rattle.startup_read.proofs.SparesLaws.{spared_stands, spares_nothing}

not_of_index : (p q : Place) → (IsOfIndex p → ⊥) → IsOfIndex q → p ≡ q → ⊥
not_of_index p q apart of same = apart (subst IsOfIndex (sym same) of)

-- what stands elsewhere than at a place of the index is the same once the opening is synced
pub synced_stands : (s : State) (p : Place) → IsSound s → (IsOfIndex p → ⊥) → standing (opening_at Synced s) p ≡ standing s p
synced_stands s p sound apart =
    settled_same (marked (set_aside s)) p
    ∙ marked_stands (set_aside s) p (sound_aside s sound) (not_of_index p _ apart tt)
    ∙ aside_stands s p (not_of_index p _ apart tt) (not_of_index p _ apart tt)

pub opened_spares : (s : State) → SparesEntries (opening_at Synced s) (opened s)
opened_spares s = spares_cleared (opening_at Synced s) (opening_at Synced s) (spares_nothing (opening_at Synced s))

-- and at the end
pub opened_stands : (s : State) (p : Place) → IsSound s → (IsOfIndex p → ⊥) → standing (opened s) p ≡ standing s p
opened_stands s p sound apart = spared_stands (opening_at Synced s) (opened s) (opened_spares s) p apart ∙ synced_stands s p sound apart

pub opened_entries : (s t : State) → IsSound s → t ≡ opened s → (name : List ℕ) → entries_on t name ≡ entries_on s name
opened_entries s t sound is name = ap (λ (u : State). standing u (entry_place name)) is ∙ opened_stands s (entry_place name) sound (λ of. of)

-- and so it is whenever the opening stops
pub amid_stands : (s t : State) (p : Place) → IsSound s → (IsOfIndex p → ⊥) → IsAmidOpening s t → standing t p ≡ standing s p
amid_stands s t p sound apart (m, is) = ap (λ (u : State). standing u p) is ∙ go m
  where
    aside : standing (set_aside s) p ≡ standing s p
    aside = aside_stands s p (not_of_index p _ apart tt) (not_of_index p _ apart tt)

    go : (m : OpeningMoment) → standing (opening_at m s) p ≡ standing s p
    go Begun = refl
    go Aside = aside
    go Marked = marked_stands (set_aside s) p (sound_aside s sound) (not_of_index p _ apart tt) ∙ aside
    go Synced = synced_stands s p sound apart
    go Cleared = opened_stands s p sound apart
