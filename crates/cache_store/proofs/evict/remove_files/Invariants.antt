use Rattle.std.proofs.Common.{◌≡◌, IsTrue, drop}
use Rattle.cache_store.specs.Evicting.{AreUnused, HoldsFiles}
use Rattle.cache_store.proofs.Clearing.NamesDoomed.{Completes}
use Rattle.disk_theory.specs.Account.{IsCalm, LooksAtNoEntry, no_sync}
use Rattle.disk_theory.specs.Told.{Told}
use Rattle.file_handles.specs.Cache.{cache}
use Rattle.file_handles.specs.Dooming.{TakesEntries}
use Rattle.file_handles.specs.Kept.{kept}
use Rattle.file_handles.specs.Unsynced.{SyncsNothing}
use Rattle.index_theory.specs.Leaves.{LeavesBeside}
use Rattle.cache_store.proofs.evict.remove_files.Given as goal

-- the files that are left may be removed, and complete the whole
abbrev pub invariant-loop-name : goal.invariant-loop-name
invariant-loop-name g l = record {
  unused : AreUnused (kept l.handles) (drop l.name-index l.names);
  told : IsTrue g.D.Disk.tells → HoldsFiles (cache g.D.Disk l.handles l.disk) (drop l.name-index l.names);
  completes : IsTrue g.D.Disk.tells
      → Completes (drop l.name-index l.names) l.fn.names (cache g.D.Disk l.fn.handles l.fn.disk) (cache g.D.Disk l.handles l.disk);
  kept : kept l.handles ≡ kept l.fn.handles;
  index : Told g.D.Disk LeavesBeside l.fn.disk l.disk;
  takes : Told g.D.Disk TakesEntries l.fn.disk l.disk;
  unsynced : Told g.D.Disk SyncsNothing l.fn.disk l.disk;
  calm : IsCalm g.D.Disk no_sync l.fn.disk l.disk;
  looks : LooksAtNoEntry g.D.Disk l.fn.disk l.disk;
}
