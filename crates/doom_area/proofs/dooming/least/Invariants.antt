use Rattle.std.proofs.Common.{◌<◌, ◌≤◌, ◌-◌, ℕ, length, Contains}
use Rattle.doom_area.proofs.dooming.least.Given as goal

abbrev pub invariant-loop-number : goal.invariant-loop-number
invariant-loop-number l = record { within : l.number ≤ length l.in_use; lesser : (k : ℕ) → k < l.number → Contains l.in_use k }

abbrev pub decreases-loop-number : goal.decreases-loop-number
decreases-loop-number l = length l.in_use - l.number
