use Rattle.std.proofs.Common.{replicate}
use Rattle.cache_base.specs.Names.{name_cmp}
use Rattle.disk_model.proofs.OneRises.{pushed_rises}
use Rattle.disk_model.proofs.liar_disk.LiarDiskDisk.entries.Goals as goal

pub returns-clause-sorted : goal.returns-clause-sorted
returns-clause-sorted c = pushed_rises name_cmp (record { 0 = replicate 20 0 }) c.clear.new.self c.push.new.self c.clear.ensures c.in_ok-push.ensures.ok
