use Rattle.std.proofs.Common.{◌≡◌, ◌≤◌, IsTrue, drop}
use Rattle.cache_check.specs.Checks.{AllStand, files_of}
use Rattle.cache_export.specs.declared.limits.TheConstants.{DUMP_MAX}
use Rattle.disk_theory.specs.Account.{IsCalm, no_sync}
use Rattle.file_handles.specs.Kept.{kept}
use Rattle.cache_store.specs.Dumping.{items_from}
use Rattle.cache_replies.specs.Said.{saying}
use Rattle.cache_store.proofs.Dumping.DumpedItems.{IsLeft}
use Rattle.cache_store.proofs.dump.say_items.Given as goal

-- the items of the files so far were said, and those of the others complete the whole
abbrev pub invariant-loop-name : goal.invariant-loop-name
invariant-loop-name g l = record {
  used : l.used ≤ DUMP_MAX;
  told : IsTrue g.D.Disk.tells → AllStand (g.D.Disk.state l.disk) (drop l.name-index l.names);
  left : IsTrue g.D.Disk.tells → IsLeft (saying g.K.Sink l.fn.reply l.fn.sink) (saying g.K.Sink l.reply l.sink)
      (items_from l.used (files_of (g.D.Disk.state l.fn.disk) (drop l.name-index l.names))) (items_from 8 (files_of (g.D.Disk.state l.fn.disk) l.fn.names));
  kept : kept l.handles ≡ kept l.fn.handles;
  state : IsTrue g.D.Disk.tells → g.D.Disk.state l.disk ≡ g.D.Disk.state l.fn.disk;
  calm : IsCalm g.D.Disk no_sync l.fn.disk l.disk;
  unsynced : IsTrue g.D.Disk.tells → (g.D.Disk.counts l.disk).syncs ≡ (g.D.Disk.counts l.fn.disk).syncs;
  sink : g.K.Sink.faults l.sink ≡ g.K.Sink.faults l.fn.sink;
}
