-- What the machine has in a slot that the handles have.
use Rattle.std.proofs.Common.{◌≡◌, ℕ, ◌<◌, true, false, Option, Some, None, Result, Ok, Err, is_some, refl, ap, ◌∙◌}
use Rattle.std.specs.Prelude.{option_map}
use Rattle.cache_base.specs.declared.limits.TheConstants.{SLOTS}
use Rattle.cache_theory.specs.Machine.{Machine, is_slot, is_writer, number_of, object, object_of}
use Rattle.cache_theory.specs.declared.refusal.Refusal.{Refusal}
use Rattle.cache_theory.specs.declared.refusal.Refusal.TheVariants.{NoSlot}
use Rattle.cache_theory.proofs.ObjectLaws.Slots.{is_slot_of, is_writer_of, number_is}
use Rattle.handle_table.specs.Held.{IsHeldAs}
use Rattle.handle_table.specs.Kept.{Kept, use_at, used}
use Rattle.handle_table.specs.Refuses.{HasAt}
use Rattle.handle_table.specs.Standing.{HandlesStand, slot_of}
use Rattle.handle_table.specs.declared.object.Object.{Object}
use Rattle.handle_table.specs.declared.object.Use.{Use}

-- whether a use was found
pub no_use_found : (o : Option Use) (r : Refusal) → used o ≡ Err r → (o ≡ None) × (r ≡ NoSlot)
no_use_found None r is = (refl, (let same : ◌≡◌ {A = Result Use Refusal} (Err NoSlot) (Err r) = is in cc))
no_use_found (Some u) r is = absurd (let never : ◌≡◌ {A = Result Use Refusal} (Ok u) (Err r) = is in cc)

pub use_found : (o : Option Use) (u : Use) → used o ≡ Ok u → o ≡ Some u
use_found None u is = absurd (let never : ◌≡◌ {A = Result Use Refusal} (Err NoSlot) (Ok u) = is in cc)
use_found (Some v) u is = let same : ◌≡◌ {A = Result Use Refusal} (Ok v) (Ok u) = is in cc

-- the use of a slot with an object
pub use_there : (k : Kept) (s p : ℕ) (x : Object) → HasAt k s p x → (u : Use) × ((use_at k s ≡ Some u) × (u.place ≡ p))
use_there k s p x has = go (use_at k s) refl has.place
  where
    go : (o : Option Use) → use_at k s ≡ o → option_map (λ (u : Use). u.place) o ≡ Some p → (u : Use) × ((use_at k s ≡ Some u) × (u.place ≡ p))
    go None at is = absurd (let never : None ≡ Some p = is in cc)
    go (Some u) at is = (u, (at, (let same : Some u.place ≡ Some p = is in cc)))

module _ (k : Kept) (m : Machine) (number : ℕ → ℕ) (stand : HandlesStand k m number) (s : ℕ) (small : s < SLOTS) where
  -- no use there
  pub no_slot : use_at k s ≡ None → is_slot m s ≡ false
  no_slot none = ap (λ o. is_some o) (stand.slots s small ∙ ap (option_map (slot_of number)) none)

  module _ (u : Use) (at : use_at k s ≡ Some u) where
    -- a use there
    pub slot_has : m.slots s ≡ Some (record { object = number u.place; writes = u.writes })
    slot_has = stand.slots s small ∙ ap (option_map (slot_of number)) at

    pub slot_is : is_slot m s ≡ true
    slot_is = is_slot_of m s (number u.place) u.writes slot_has

    pub slot_number : number_of m s ≡ number u.place
    slot_number = number_is m s (number u.place) u.writes slot_has

    pub slot_writes : is_writer m s ≡ u.writes
    slot_writes = is_writer_of m s (number u.place) u.writes slot_has

  module _ (p : ℕ) (x : Object) (has : HasAt k s p x) where
    -- an object of the slot
    pub there_is_slot : is_slot m s ≡ true
    there_is_slot = let there = use_there k s p x has in slot_is there.0 there.1.0

    pub there_number : number_of m s ≡ number p
    there_number = let there = use_there k s p x has in slot_number there.0 there.1.0 ∙ ap number there.1.1

    pub there_object : object_of m s ≡ object m (number p)
    there_object = ap (object m) there_number

    pub there_held : IsHeldAs x (object m (number p))
    there_held = (stand.objects p x has.found).as_held
