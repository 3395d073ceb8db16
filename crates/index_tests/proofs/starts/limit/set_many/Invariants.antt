use Rattle.index_map.specs.Known.{SameBase}
use Rattle.index_tests.proofs.starts.limit.set_many.Given as goal

abbrev pub invariant-loop-number : goal.invariant-loop-number
invariant-loop-number l = SameBase l.initial.map l.map
