use Rattle.std.proofs.Common.{take}
use Rattle.disk_model.specs.MemWrite.{newest_first, IsPatched}
use Rattle.disk_model.proofs.mem_file.is_patched.Given as goal

abbrev pub invariant-loop-write : goal.invariant-loop-write
invariant-loop-write l = IsPatched l.at (newest_first (take l.write-index l.writes)) → ⊥
