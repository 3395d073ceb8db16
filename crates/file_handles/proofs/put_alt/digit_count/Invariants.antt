use Rattle.std.proofs.Common.{◌+◌, ◌-◌, ◌≡◌, decimal, length}
use Rattle.file_handles.proofs.put_alt.digit_count.Given as goal

abbrev pub invariant-loop-rest : goal.invariant-loop-rest
invariant-loop-rest l = length (decimal l.fn.n) + 1 ≡ l.count + length (decimal l.rest)

abbrev pub decreases-loop-rest : goal.decreases-loop-rest
decreases-loop-rest l = l.rest + 1 - 10
