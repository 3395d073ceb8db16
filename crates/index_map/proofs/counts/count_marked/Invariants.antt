use Rattle.std.proofs.Common.{◌≡◌, take}
use Rattle.std.specs.Map.{values_of}
use Rattle.index_map.specs.Slots.{counts_of, marked_in}
use Rattle.index_map.proofs.counts.count_marked.Given as goal

abbrev pub invariant-loop-i : goal.invariant-loop-i
invariant-loop-i l = l.counts ≡ counts_of (values_of (marked_in (take l.i l.records) (take l.i l.marks)))
