use Rattle.std.proofs.Common.{◌≡◌, ◌+◌, ◌*◌}
use Rattle.std.specs.Prelude.{map}
use Rattle.std.specs.List.{range_with_len}
use Rattle.cache_base.specs.Bytes.{be16_at}
use Rattle.entry_metadata.proofs.reading.hashes_in.Given as goal

abbrev pub invariant-loop-i : goal.invariant-loop-i
invariant-loop-i l = l.hashes ≡ map (λ i. be16_at l.block (4 + 2 * i)) (range_with_len 0 l.i)
