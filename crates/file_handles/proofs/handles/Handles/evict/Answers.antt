use Rattle.file_handles.specs.Kept.{kept}
use Rattle.file_handles.proofs.Dooming.Evicted.{evicted}
use Rattle.file_handles.proofs.IndexLeft.{removed_left}
use Rattle.file_handles.proofs.TakingSteps.{removed_takes}
use Rattle.file_handles.proofs.UnsyncedLaws.{removed_unsynced}
use Rattle.file_handles.proofs.handles.Handles.evict.Goals as goal

pub returns-clause-evicts : goal.returns-clause-evicts
returns-clause-evicts g c told =
    evicted (g.D.Disk.state c.args.disk.now) (g.D.Disk.state c.remove.new.self) (kept c.args.self.now) c.args.name.now c.remove.result
    c.requires.unused (c.remove.ensures.state told)

pub returns-clause-index : goal.returns-clause-index
returns-clause-index g c told =
    removed_left c.remove.result (g.D.Disk.state c.args.disk.now) (g.D.Disk.state c.remove.new.self) c.args.name.now (c.remove.ensures.state told)

pub returns-clause-unsynced : goal.returns-clause-unsynced
returns-clause-unsynced g c told =
    removed_unsynced c.remove.result (g.D.Disk.state c.args.disk.now) (g.D.Disk.state c.remove.new.self) c.args.name.now (c.remove.ensures.state told)

pub returns-clause-takes : goal.returns-clause-takes
returns-clause-takes g c told =
    removed_takes c.remove.result (g.D.Disk.state c.args.disk.now) (g.D.Disk.state c.remove.new.self) c.args.name.now (c.remove.ensures.state told)
