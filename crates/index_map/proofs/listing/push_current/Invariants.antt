use Rattle.std.proofs.Common.{◌≡◌, ◌++◌, take}
use Rattle.std.specs.List.{filter_map}
use Rattle.std.specs.Map.{values_of}
use Rattle.index_map.specs.Slots.{marked_in}
use Rattle.index_map.proofs.listing.push_current.Given as goal

abbrev pub invariant-loop-i : goal.invariant-loop-i
invariant-loop-i l = l.list.items ≡ l.fn.list.items ++ filter_map (λ slot. slot.current) (values_of (marked_in (take l.i l.records) (take l.i l.marks)))
