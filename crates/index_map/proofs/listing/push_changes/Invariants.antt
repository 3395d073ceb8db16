use Rattle.std.proofs.Common.{◌≡◌, ◌++◌, take}
use Rattle.std.specs.List.{filter_map}
use Rattle.std.specs.Map.{values_of}
use Rattle.index_map.specs.Slots.{change_in, marked_in}
use Rattle.index_map.proofs.listing.push_changes.Given as goal

abbrev pub invariant-loop-i : goal.invariant-loop-i
invariant-loop-i l = l.list.items ≡ l.initial.list.items ++ filter_map change_in (values_of (marked_in (take l.i l.records) (take l.i l.marks)))
