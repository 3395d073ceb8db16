use Rattle.std.proofs.Common.{◌≡◌, ◌++◌}
use Rattle.std.specs.List.{filter_map}
use Rattle.std.specs.Map.{values_of}
use Rattle.index_map.specs.Slots.{slots_of, change_in}
use Rattle.index_map.proofs.listing.changes.Given as goal

abbrev pub invariant-loop-name : goal.invariant-loop-name
invariant-loop-name l = l.list.items ++ filter_map change_in (values_of (slots_of l.name-iterator)) ≡ filter_map change_in (values_of (slots_of l.slots.entries))
