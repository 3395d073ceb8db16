-- A slot of the handles that is given up.
use Rattle.std.proofs.Common.{◌≡◌, ◌≢◌, inl, inr, ℕ, ◌<◌, length, true, false, get_or, Option, Some, None, IsSome, refl, sym, ap, subst, ◌∙◌, arith, get_or-set_same, get_or-set_other, eqb-true, eq-eqb}
use Rattle.std.specs.Prelude.{option_map, slice_get, slice_set, unwrap_or, ◌||◌}
use Rattle.std.specs.List.{list_any}
use Rattle.std.proofs.lemmas.Bool.{cases_eq, cond_both}
use Rattle.std.proofs.lemmas.List.Folds.{Any-from_list_any, list_any_at}
use Rattle.std.proofs.lemmas.Option.{slice_get-get_or, slice_get_within, unwrap_or-slice_get}
use Rattle.cache_base.specs.declared.limits.TheConstants.{SLOTS}
use Rattle.cache_theory.specs.Machine.{Machine, has_slots, number_of, object_of}
use Rattle.cache_theory.specs.Step.{released, with_slot}
use Rattle.cache_theory.proofs.ObjectLaws.Releasing.{without_slot, without_use}
use Rattle.cache_theory.proofs.ObjectLaws.Slots.{HasSlot, same_use, slot_kept, use_of, with_slot_other, with_slot_same}
use Rattle.entry_name.specs.EntryName.{file_name}
use Rattle.handle_table.specs.Seats.{is_use_of}
use Rattle.handle_table.specs.Kept.{Kept, object_at, use_at, with_use}
use Rattle.handle_table.specs.Standing.{HandlesStand, slot_of}
use Rattle.handle_table.specs.declared.object.Object.{Object}
use Rattle.handle_table.specs.declared.object.Use.{Use}

-- The slots of the handles by their numbers, after one of them is set.

pub use_within : (k : Kept) (s : ℕ) (u : Use) → use_at k s ≡ Some u → s < length k.slots
use_within k s u at = go (slice_get k.slots s) refl
  where
    go : (o : Option (Option Use)) → slice_get k.slots s ≡ o → s < length k.slots
    go None none = absurd (let both : None ≡ Some u = ap (λ (o : Option (Option Use)). unwrap_or o None) (sym none) ∙ at in cc)
    go (Some y) some = slice_get_within k.slots s y some

use_set_here : (k : Kept) (s t : ℕ) (x : Option Use) → s < length k.slots → t ≡ s → use_at (with_use k s x) t ≡ x
use_set_here k s t x within same = ap (use_at (with_use k s x)) same ∙ unwrap_or-slice_get (slice_set k.slots s x) s None ∙ get_or-set_same k.slots s x None within

use_set_other : (k : Kept) (s t : ℕ) (x : Option Use) → t ≢ s → use_at (with_use k s x) t ≡ use_at k t
use_set_other k s t x apart = unwrap_or-slice_get (slice_set k.slots s x) t None ∙ get_or-set_other k.slots s t x None apart ∙ sym (unwrap_or-slice_get k.slots t None)

-- an object that is there
pub some_object : (o : Option Object) → IsSome o → (x : Object) × (o ≡ Some x)
some_object None is = absurd (cc)
some_object (Some x) is = (x, refl)

-- The machine without the slot has the same objects.

by_release : (m : Machine) (s : ℕ) (P : Machine → Type 0) → P (without_slot m s) → P (without_use m s (file_name (object_of m s).version.key)) → P (released m s)
by_release m s P kept gone =
    cond_both (has_slots (without_slot m s) (number_of m s) || (object_of m s).doomed) (without_slot m s) (without_use m s (file_name (object_of m s).version.key)) P (λ held. kept) (λ free. gone)

pub released_slots : (m : Machine) (s : ℕ) → (released m s).slots ≡ with_slot s None m.slots
released_slots m s = by_release m s (λ t. t.slots ≡ with_slot s None m.slots) refl refl

pub released_shelf : (m : Machine) (s : ℕ) → (released m s).shelf ≡ m.shelf
released_shelf m s = by_release m s (λ t. t.shelf ≡ m.shelf) refl refl

pub released_objects : (m : Machine) (s : ℕ) → (released m s).objects ≡ m.objects
released_objects m s = by_release m s (λ t. t.objects ≡ m.objects) refl refl

-- Which objects keep a slot where this one is given up.
module _ (m : Machine) (number : ℕ → ℕ) (k : Kept) (stand : HandlesStand k m number) (s : ℕ) (u : Use) (at_s : use_at k s ≡ Some u) (room : length k.slots ≡ SLOTS) where
  small : s < SLOTS
  small = let lt = use_within k s u at_s in omega (arith, lt, room)

  pub left_at : (t : ℕ) → t < SLOTS → with_slot s None m.slots t ≡ option_map (slot_of number) (use_at (with_use k s None) t)
  left_at t lt = elim (cases_eq t s) [
    | inl e ↦ with_slot_same m.slots s t None e ∙ sym (ap (option_map (slot_of number)) (use_set_here k s t None (use_within k s u at_s) e))
    | inr apart ↦ with_slot_other m.slots s t None apart ∙ stand.slots t lt ∙ sym (ap (option_map (slot_of number)) (use_set_other k s t None apart))
  ]

  pub use_was : (t : ℕ) (v : Use) → use_at (with_use k s None) t ≡ Some v → use_at k t ≡ Some v
  use_was t v at = elim (cases_eq t s) [
    | inl e ↦ absurd (let never : None ≡ Some v = sym (use_set_here k s t None (use_within k s u at_s) e) ∙ at in cc)
    | inr apart ↦ sym (use_set_other k s t None apart) ∙ at
  ]

  -- a use that is left is a slot of its object
  pub left_has : (t : ℕ) (v : Use) → use_at (with_use k s None) t ≡ Some v → HasSlot (with_slot s None m.slots) (number v.place)
  left_has t v at =
      let lt : t < SLOTS = let within = use_within k t v (use_was t v at) in omega (arith, within, room) in
      record { slot = t; small = lt; writes = v.writes; at = left_at t lt ∙ ap (option_map (slot_of number)) at }

  -- another object keeps its slots
  pub other_left : (i : ℕ) → i ≢ number u.place → HasSlot m.slots i → HasSlot (with_slot s None m.slots) i
  other_left i apart h =
      let at_m : m.slots s ≡ use_of (number u.place) u.writes = stand.slots s small ∙ ap (option_map (slot_of number)) at_s in
      slot_kept m.slots s None i (λ w at. apart (sym (same_use (number u.place) i u.writes w (sym at_m ∙ at)).0)) h

  -- so does its own where some slot still uses the place
  pub other_use : list_any (is_use_of u.place) (with_use k s None).slots ≡ true → HasSlot (with_slot s None m.slots) (number u.place)
  other_use any =
      let found = Any-from_list_any (is_use_of u.place) (with_use k s None).slots any in
      go found.0 found.1 (ap (λ o. unwrap_or o None) (slice_get-get_or (with_use k s None).slots found.0 found.1 found.2) ∙ found.3) found.4
    where
      go : (t : ℕ) (o : Option Use) → use_at (with_use k s None) t ≡ o → is_use_of u.place o ≡ true → HasSlot (with_slot s None m.slots) (number u.place)
      go t None at is = absurd (cc)
      go t (Some v) at is = subst (λ p. HasSlot (with_slot s None m.slots) (number p)) (eqb-true v.place u.place is) (left_has t v at)

  -- and else it has none
  pub no_other : list_any (is_use_of u.place) (with_use k s None).slots ≡ false → HasSlot (with_slot s None m.slots) (number u.place) → ⊥
  no_other none h = go (use_at (with_use k s None) h.slot) refl
    where
      go : (o : Option Use) → use_at (with_use k s None) h.slot ≡ o → ⊥
      go None at = let never : None ≡ use_of (number u.place) h.writes = sym (ap (option_map (slot_of number)) at) ∙ sym (left_at h.slot h.small) ∙ h.at in cc
      go (Some v) at =
          let same : number v.place ≡ number u.place = (same_use (number v.place) (number u.place) v.writes h.writes (sym (ap (option_map (slot_of number)) at) ∙ sym (left_at h.slot h.small) ∙ h.at)).0 in
          let there = some_object (object_at k v.place) (stand.used h.slot v (use_was h.slot v at)) in
          let here = some_object (object_at k u.place) (stand.used s u at_s) in
          let one : v.place ≡ u.place = stand.apart v.place u.place there.0 here.0 there.1 here.1 same in
          let within = use_within (with_use k s None) h.slot v at in
          let is : is_use_of u.place (get_or (with_use k s None).slots h.slot None) ≡ true =
          ap (is_use_of u.place) (sym (unwrap_or-slice_get (with_use k s None).slots h.slot None) ∙ at) ∙ eq-eqb v.place u.place one in
          let some : list_any (is_use_of u.place) (with_use k s None).slots ≡ true = list_any_at (is_use_of u.place) (with_use k s None).slots h.slot None within is in
          let both : true ≡ false = sym some ∙ none in cc

-- the use of a slot that has this place
pub use_placed : (o : Option Use) (p : ℕ) → option_map (λ u. u.place) o ≡ Some p → (u : Use) × ((o ≡ Some u) × (u.place ≡ p))
use_placed None p is = absurd (let never : None ≡ Some p = is in cc)
use_placed (Some u) p is = (u, (refl, (let same : Some u.place ≡ Some p = is in cc)))
