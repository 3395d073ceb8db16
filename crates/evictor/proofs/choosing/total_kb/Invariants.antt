use Rattle.std.proofs.Common.{◌≡◌, ◌≤◌, ◌*◌, ◌^◌, take}
use Rattle.evictor.specs.Evict.{total_kb}
use Rattle.evictor.proofs.choosing.total_kb.Given as goal

abbrev pub invariant-loop-r : goal.invariant-loop-r
invariant-loop-r l = (l.total ≡ total_kb (take l.r-index l.records)) × (l.total ≤ l.r-index * 2 ^ 24)
