-- How a slot leaves the place that it has.
use Rattle.std.specs.List.{list_any}
use Rattle.std.specs.Prelude.{Bool, None, Option, Some, false, true, ℕ, ◌≡◌}
use Rattle.handle_table.specs.Kept.{Kept, object_at, with_object, with_use, without_chunks}
use Rattle.handle_table.specs.Seats.{is_use_of}
use Rattle.handle_table.specs.declared.object.Object.{Object}

-- a slot but this one uses the place
abbrev pub other_uses : Kept → ℕ → ℕ → Bool
other_uses k slot place = list_any (is_use_of place) (with_use k slot None).slots

-- what is given back where the slot leaves the place: nothing where another slot uses it, and else the object there,
-- which is gone with its chunks
abbrev pub LeavesPlace : ℕ → ℕ → Option Object → Kept → Kept → Type 0
LeavesPlace slot place None k after =
    (other_uses k slot place ≡ true) × (after ≡ with_use k slot None)
LeavesPlace slot place (Some x) k after =
    (other_uses k slot place ≡ false) × ((object_at k place ≡ Some x)
    × (after ≡ without_chunks (with_object (with_use k slot None) place None) x.number))
