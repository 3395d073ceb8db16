use Rattle.std.proofs.Common.{length, ◌-◌}
use Rattle.entry_key.proofs.Values.{Spelled}
use Rattle.entry_key.proofs.value.value_end.Given as goal

abbrev pub invariant-loop-at : goal.invariant-loop-at
invariant-loop-at l = Spelled l.key l.from l.at

abbrev pub decreases-loop-at : goal.decreases-loop-at
decreases-loop-at l = length l.key - l.at
