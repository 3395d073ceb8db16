use Rattle.std.proofs.Common.{◌≡◌, ◌++◌, length}
use Rattle.chunk_store.specs.Chunks.{chunk_hashes}
use Rattle.alt_data.proofs.hashes.push_hashes.Given as goal

abbrev pub invariant-loop-rest : goal.invariant-loop-rest
invariant-loop-rest l = l.hashes ++ chunk_hashes l.rest ≡ l.fn.hashes ++ chunk_hashes l.body

abbrev pub decreases-loop-rest : goal.decreases-loop-rest
decreases-loop-rest l = length l.rest
