use Rattle.std.proofs.Common.{◌≡◌, ◌++◌, take}
use Rattle.std.specs.List.{filter_map}
use Rattle.std.specs.Map.{values_of}
use Rattle.index_map.specs.Slots.{change_in, slots_of}
use Rattle.index_map.proofs.listing.push_placed_changes.Given as goal

abbrev pub invariant-loop-place : goal.invariant-loop-place
invariant-loop-place l = l.list.items ≡ l.fn.list.items ++ filter_map change_in (values_of (slots_of (take l.place-index l.places)))
