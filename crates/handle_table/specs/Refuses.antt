-- Commands that the machine refuses, and those that it does not, as the handles alone tell.
use Rattle.std.specs.Prelude.{Err, IsSomeAnd, None, Option, Result, Some, option_map, ℕ, ◌↔◌, ◌<◌, ◌≡◌}
use Rattle.cache_base.specs.Checks.{first_failing}
use Rattle.cache_base.specs.declared.limits.TheConstants.{SLOTS}
use Rattle.cache_theory.specs.Checks.{checks}
use Rattle.cache_theory.specs.Command.{Command}
use Rattle.cache_theory.specs.Machine.{Machine}
use Rattle.cache_theory.specs.Proper.{IsProper}
use Rattle.cache_theory.specs.declared.refusal.Refusal.{Refusal}
use Rattle.cache_theory.specs.declared.refusal.Refusal.TheVariants as refused
use Rattle.handle_table.specs.Kept.{Kept, object_at, object_in, use_at}
use Rattle.handle_table.specs.Standing.{HandlesStand}
use Rattle.handle_table.specs.declared.object.Object.{Object}

-- whatever machine the handles stand for, its checks of the command end so
abbrev pub EndsIn : Kept → Command → Option Refusal → Type 0
EndsIn k c end =
    (m : Machine) (number : ℕ → ℕ) → IsProper m → HandlesStand k m number
    → first_failing (checks m c) ≡ end

-- each such machine refuses the command so
abbrev pub Refuses : Kept → Command → Refusal → Type 0
Refuses k c r = EndsIn k c (Some r)

-- no such machine refuses it
abbrev pub Passes : Kept → Command → Type 0
Passes k c = EndsIn k c None

-- the slot has no object, and that is the refusal
abbrev pub HasNoObject : Kept → ℕ → Refusal → Type 0
HasNoObject k s r = (r ≡ refused.NoSlot) × (object_in k s ≡ None)

-- a check ends with the refusal `no slot` exactly where the slot has no object
abbrev pub ChecksNoSlot : {T : Type 0} → Kept → ℕ → Result T Refusal → Type 0
ChecksNoSlot k s answer = (answer ≡ Err refused.NoSlot) ↔ (object_in k s ≡ None)

-- the slot has this place, and this object is there
pub record HasAt (k : Kept) (s p : ℕ) (x : Object) : Type 0 where
  pub ranged : p < SLOTS
  pub place : option_map (λ u. u.place) (use_at k s) ≡ Some p
  pub found : object_at k p ≡ Some x

-- the slot has this place, and the object there is P
abbrev pub UsesObject : Kept → ℕ → ℕ → (Object → Type 0) → Type 0
UsesObject k s p P = IsSomeAnd (object_at k p) (λ x. HasAt k s p x × P x)
