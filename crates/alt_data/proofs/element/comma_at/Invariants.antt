use Rattle.std.proofs.Common.{◌≡◌, ◌≤◌, ◌+◌, ◌-◌, length, drop}
use Rattle.alt_data.specs.AltData.{before_comma}
use Rattle.alt_data.proofs.element.comma_at.Given as goal

abbrev pub invariant-loop-at : goal.invariant-loop-at
invariant-loop-at l = record { within : l.at ≤ length l.b; rest : l.at + length (before_comma (drop l.at l.b)) ≡ length (before_comma l.b) }

abbrev pub decreases-loop-at : goal.decreases-loop-at
decreases-loop-at l = length l.b - l.at
