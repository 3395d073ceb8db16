-- The handles as the machine has them.
use Rattle.std.specs.Prelude.{IsSome, Some, option_map, ℕ, ◌<◌, ◌≡◌}
use Rattle.cache_base.specs.declared.limits.TheConstants.{SLOTS}
use Rattle.cache_theory.specs.Machine.{Machine, Slot, object}
use Rattle.cache_theory.specs.Proper.{IsInUse}
use Rattle.handle_table.specs.Held.{IsHeldAs}
use Rattle.handle_table.specs.HeldChunks.{ChunksStand}
use Rattle.handle_table.specs.Kept.{Kept, object_at, use_at}
use Rattle.handle_table.specs.declared.object.Object.{Object}
use Rattle.handle_table.specs.declared.object.Use.{Use}

-- the machine's slot for a use, where `number` gives the machine's number of the object at a place
abbrev pub slot_of : (ℕ → ℕ) → Use → Slot
slot_of number u = record { object = number u.place; writes = u.writes }

-- the object at a place is the machine's of its number, which is in use
pub record IsObjectOf (m : Machine) (i : ℕ) (x : Object) : Type 0 where
  pub in_use : IsInUse m i
  pub as_held : IsHeldAs x (object m i)

-- the handles are the machine's slots and objects in use
pub record HandlesStand (k : Kept) (m : Machine) (number : ℕ → ℕ) : Type 0 where
  pub slots : (s : ℕ) → s < SLOTS → m.slots s ≡ option_map (slot_of number) (use_at k s)
  pub used : (s : ℕ) (u : Use) → use_at k s ≡ Some u → IsSome (object_at k u.place)
  pub objects : (p : ℕ) (x : Object) → object_at k p ≡ Some x → IsObjectOf m (number p) x
  pub apart : (p q : ℕ) (x y : Object) → object_at k p ≡ Some x → object_at k q ≡ Some y
      → number p ≡ number q → p ≡ q
  pub chunks : ChunksStand k m number
