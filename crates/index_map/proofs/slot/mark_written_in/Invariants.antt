use Rattle.std.proofs.Common.{◌≡◌, ◌++◌, drop, length, take}
use Rattle.std.specs.Prelude.{map}
use Rattle.index_map.specs.Slots.{written_held}
use Rattle.index_map.proofs.slot.mark_written_in.Given as goal

abbrev pub invariant-loop-i : goal.invariant-loop-i
invariant-loop-i l = (l.places.items ≡ map (λ e. (e.0, written_held e.1)) (take l.i l.initial.places.items) ++ drop l.i l.initial.places.items) × (length l.places.items ≡ length l.initial.places.items)
