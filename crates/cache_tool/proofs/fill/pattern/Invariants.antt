use Rattle.std.proofs.Common.{◌≡◌, ◌%◌}
use Rattle.std.specs.List.{range_with_len}
use Rattle.std.specs.Prelude.{map}
use Rattle.cache_tool.proofs.fill.pattern.Given as goal

-- the bytes so far
abbrev pub invariant-loop-j : goal.invariant-loop-j
invariant-loop-j l = l.bytes ≡ map (λ j. j % 256) (range_with_len 0 l.j)
