use Rattle.std.proofs.Common.{refl}
use Rattle.disk_model.proofs.MemReached.{found_one}
use Rattle.disk_model.proofs.mem_file.is_patched.Goals as goal

pub returns-then-patches : goal.returns-then-patches
returns-then-patches c =
    (λ _. found_one c.args.at c.args.writes.now c.loop-write.write-index c.write-item.result c.loop-write-test.true c.write-item.is (c.if-patches.ensures.0 refl), λ _. refl)
