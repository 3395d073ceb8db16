-- A file that stands aside has a number below that of the slots.
use Rattle.std.proofs.Common.{◌≡◌, ℕ, zero, suc, ◌<◌, List, [], ◌∷◌, length, Option, Some, None, subst, arith}
use Rattle.std.specs.Prelude.{option_and_then, slice_get, slice_set, unwrap_or}
use Rattle.cache_base.specs.declared.limits.TheConstants.{SLOTS}
use Rattle.doom_area.specs.DoomArea.{IsLeastFree}
use Rattle.doom_area.proofs.LeastFree.{long_enough}
use Rattle.handle_table.specs.Seats.{AreLow, IsLow}
use Rattle.handle_table.specs.declared.object.Object.{Object}

-- the number at a place
pub low_at : (objects : List (Option Object)) (place : ℕ) (x : Object) → unwrap_or (slice_get objects place) None ≡ Some x → AreLow objects → IsLow x.aside
low_at objects place x at low = subst (λ o. IsLow (option_and_then (λ (y : Object). y.aside) o)) at (low place)

-- with another object at a place
pub low_set : (objects : List (Option Object)) (place : ℕ) (x : Option Object) → IsLow (option_and_then (λ (y : Object). y.aside) x) → AreLow objects → AreLow (slice_set objects place x)
low_set [] place x is low p = low p
low_set (y ∷ ys) zero x is low zero = is
low_set (y ∷ ys) zero x is low (suc p) = low (suc p)
low_set (y ∷ ys) (suc place) x is low zero = low zero
low_set (y ∷ ys) (suc place) x is low (suc p) = low_set ys place x is (λ q. low (suc q)) p

-- with none there
pub low_without : (objects : List (Option Object)) (place : ℕ) → AreLow objects → AreLow (slice_set objects place None)
low_without objects place low = low_set objects place None (λ n never. absurd (cc)) low

-- the least free number of fewer numbers than there are slots
pub least_low : (numbers : List ℕ) (n : ℕ) → IsLeastFree numbers n → length numbers < SLOTS → n < SLOTS
least_low numbers n least few = let enough = long_enough numbers n least.lesser in omega (arith, enough, few)
