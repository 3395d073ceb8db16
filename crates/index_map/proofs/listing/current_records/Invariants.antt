use Rattle.std.proofs.Common.{◌≡◌, ◌++◌}
use Rattle.std.specs.List.{filter_map}
use Rattle.std.specs.Map.{values_of}
use Rattle.index_map.specs.Slots.{slots_of}
use Rattle.index_map.proofs.Shown.{current_of}
use Rattle.index_map.proofs.listing.current_records.Given as goal

abbrev pub invariant-loop-name : goal.invariant-loop-name
invariant-loop-name l = l.list.items ++ filter_map current_of (values_of (slots_of l.name-iterator)) ≡ filter_map current_of (values_of (slots_of l.slots.entries))
