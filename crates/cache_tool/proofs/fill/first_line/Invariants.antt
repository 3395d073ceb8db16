use Rattle.std.proofs.Common.{length, ◌-◌, ◌≡◌, ◌≤◌, ◌++◌, drop, take}
use Rattle.cache_tool.specs.FirstLine.{first_line as first_line_of}
use Rattle.cache_tool.proofs.fill.first_line.Given as goal

-- the bytes so far begin the line
abbrev pub invariant-loop-n : goal.invariant-loop-n
invariant-loop-n l = (l.n ≤ length l.text) × (take l.n l.text ++ first_line_of (drop l.n l.text) ≡ first_line_of l.text)

abbrev pub decreases-loop-n : goal.decreases-loop-n
decreases-loop-n l = length l.text - l.n
