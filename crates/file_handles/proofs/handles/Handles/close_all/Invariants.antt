use Rattle.std.proofs.Common.{◌≡◌, IsTrue, length}
use Rattle.disk_theory.specs.Account.{IsCalm, LooksAtNoEntry, no_sync}
use Rattle.doom_area.specs.DoomArea.{RemovesDoomed}
use Rattle.index_theory.specs.Leaves.{LeavesBeside}
use Rattle.file_handles.specs.Kept.{kept}
use Rattle.file_handles.proofs.Closing.ClosedAll.{IsDroppedTo}
use Rattle.file_handles.proofs.handles.Handles.close_all.Given as goal

abbrev pub invariant-loop-object : goal.invariant-loop-object
invariant-loop-object g l = record {
  long : length (kept l.fn.self).objects ≡ 64;
  to : IsTrue g.D.Disk.tells → IsDroppedTo (kept l.fn.self) l.object-index (g.D.Disk.state l.fn.disk) (g.D.Disk.state l.disk);
  left : IsTrue g.D.Disk.tells → LeavesBeside (g.D.Disk.state l.fn.disk) (g.D.Disk.state l.disk);
  gone : IsTrue g.D.Disk.tells → RemovesDoomed (g.D.Disk.state l.fn.disk) (g.D.Disk.state l.disk);
  calm : IsCalm g.D.Disk no_sync l.fn.disk l.disk;
  looks : LooksAtNoEntry g.D.Disk l.fn.disk l.disk;
}
