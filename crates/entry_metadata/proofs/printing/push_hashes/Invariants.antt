use Rattle.std.proofs.Common.{◌≡◌, ◌++◌, take}
use Rattle.std.specs.Prelude.{flat_map}
use Rattle.cache_base.specs.Bytes.{be16}
use Rattle.entry_metadata.proofs.printing.push_hashes.Given as goal

abbrev pub invariant-loop-hash : goal.invariant-loop-hash
invariant-loop-hash l = l.out ≡ l.initial.out ++ flat_map be16 (take l.hash-index l.hashes)
