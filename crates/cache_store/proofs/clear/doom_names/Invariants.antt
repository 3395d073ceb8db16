use Rattle.std.proofs.Common.{IsTrue, drop, take}
use Rattle.cache_store.specs.Clearing.{HoldsNames}
use Rattle.cache_store.proofs.Clearing.NamesDoomed.{Completes}
use Rattle.disk_theory.specs.Account.{IsCalm, LooksAtNoEntry, no_sync}
use Rattle.disk_theory.specs.Told.{Told}
use Rattle.file_handles.specs.Cache.{cache}
use Rattle.file_handles.specs.Dooming.{LeavesMark, TakesInOrder}
use Rattle.handle_table.specs.HeldChunks.{SameChunks}
use Rattle.file_handles.specs.Kept.{kept}
use Rattle.index_theory.specs.Leaves.{LeavesBeside}
use Rattle.cache_store.proofs.clear.doom_names.Given as goal

-- the names that are left may be doomed, and complete the whole
abbrev pub invariant-loop-name : goal.invariant-loop-name
invariant-loop-name g l = record {
  told : IsTrue g.D.Disk.tells → HoldsNames (cache g.D.Disk l.handles l.disk) (drop l.name-index l.names);
  completes : IsTrue g.D.Disk.tells
      → Completes (drop l.name-index l.names) l.fn.names (cache g.D.Disk l.fn.handles l.fn.disk) (cache g.D.Disk l.handles l.disk);
  chunks : SameChunks (kept l.fn.handles) (kept l.handles);
  mark : Told g.D.Disk LeavesMark l.fn.disk l.disk;
  takes : Told g.D.Disk (TakesInOrder (take l.name-index l.names)) l.fn.disk l.disk;
  index : Told g.D.Disk LeavesBeside l.fn.disk l.disk;
  calm : IsCalm g.D.Disk no_sync l.fn.disk l.disk;
  looks : LooksAtNoEntry g.D.Disk l.fn.disk l.disk;
}
