use Rattle.std.proofs.Common.{◌≡◌, ◌++◌, drop}
use Rattle.std.specs.Prelude.{map}
use Rattle.evictor.specs.Evict.{down_to}
use Rattle.evictor.proofs.choosing.first_names.Given as goal

abbrev pub invariant-loop-r : goal.invariant-loop-r
invariant-loop-r l = map (λ r. r.name) (down_to l.fn.total l.limit l.records) ≡ l.names ++ map (λ r. r.name) (down_to l.left l.limit (drop l.r-index l.records))
