use Rattle.std.proofs.Common.{◌≡◌, take}
use Rattle.evictor.proofs.ordering.listed.Given as goal

abbrev pub invariant-loop-r : goal.invariant-loop-r
invariant-loop-r l = l.list ≡ take l.r-index l.records
