use Rattle.std.specs.Ordering.{nat_cmp}
use Rattle.disk_model.proofs.OneRises.{pushed_rises}
use Rattle.disk_model.proofs.liar_disk.LiarDiskDisk.doomed.Goals as goal

pub returns-clause-sorted : goal.returns-clause-sorted
returns-clause-sorted c = pushed_rises nat_cmp 0 c.clear.new.self c.push.new.self c.clear.ensures c.in_ok-push.ensures.ok
