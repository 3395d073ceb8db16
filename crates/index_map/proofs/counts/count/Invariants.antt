use Rattle.std.proofs.Common.{◌≡◌, take}
use Rattle.std.specs.Prelude.{map}
use Rattle.index_map.specs.Slots.{bare, counts_of}
use Rattle.index_map.proofs.counts.count.Given as goal

abbrev pub invariant-loop-slot : goal.invariant-loop-slot
invariant-loop-slot l = l.counts ≡ counts_of (map bare (take l.slot-index l.slots))
