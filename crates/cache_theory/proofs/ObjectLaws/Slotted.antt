-- A machine with other slots, at another moment.
use Rattle.std.proofs.Common.{◌≡◌, ℕ, ◌<◌, ◌^◌, List, length, Option, Some, true, false, refl, arith}
use Rattle.cache_base.specs.declared.limits.TheConstants.{SLOTS}
use Rattle.cache_theory.specs.Machine.{Machine, Slot, object}
use Rattle.cache_theory.specs.Proper.{IsInUse, IsProper, IsUser}
use Rattle.cache_theory.proofs.ObjectLaws.Slots.{HasSlot, slot_of, use_of}
use Rattle.cache_theory.proofs.ObjectLaws.Users.{in_use_along, user_along}

abbrev pub with_slots : Machine → ℕ → (ℕ → Option Slot) → Machine
with_slots m now slots = record m { moment = now; slots = slots }

-- these may be the slots of the machine's objects: each user keeps one, and each writer of one that is being written
pub record MaySlot (m : Machine) (slots : ℕ → Option Slot) : Type 0 where
  pub limits : (s : ℕ) (slot : Slot) → slots s ≡ Some slot → (s < SLOTS) × (slot.object < length m.objects)
  pub kept : (name : List ℕ) (i : ℕ) → IsUser m name i → HasSlot slots i
  pub had : (i : ℕ) → HasSlot slots i → HasSlot m.slots i
  pub writer : (i : ℕ) → IsInUse m i → (object m i).finished ≡ false → (s : ℕ) × (slots s ≡ use_of i true)

pub same_slots : (m : Machine) → IsProper m → MaySlot m m.slots
same_slots m proper = record { limits = proper.slots; kept = λ name i u. slot_of m i u.in_use.slots; had = λ i h. h; writer = proper.writer }

module _ (m : Machine) (now : ℕ) (slots : ℕ → Option Slot) (proper : IsProper m) (small : now < 2 ^ 32) (may : MaySlot m slots) where
  use_off : (i : ℕ) → IsInUse (with_slots m now slots) i → IsInUse m i
  use_off i u = in_use_along (with_slots m now slots) m i (omega arith) (may.had i) u

  pub proper_slotted : IsProper (with_slots m now slots)
  proper_slotted = record {
    moment = small;
    shelf = proper.shelf;
    users = proper.users;
    contents = proper.contents;
    objects = proper.objects;
    slots = may.limits;
    user = λ name i at.
        let u = proper.user name i at in
        user_along m (with_slots m now slots) name i (in_use_along m (with_slots m now slots) i (omega arith) (λ h. may.kept name i u)) refl refl u;
    only_user = λ name i u. proper.only_user name i (user_along (with_slots m now slots) m name i (use_off i) refl refl u);
    stored = proper.stored;
    unstored = proper.unstored;
    writer = λ i u un. may.writer i (use_off i u) un;
  }
