use Rattle.std.proofs.Common.{◌≡◌, ◌≤◌, ◌-◌, IsTrue}
use Rattle.cache_export.specs.Reader.{used_in}
use Rattle.cache_export.specs.declared.limits.TheConstants.{DUMP_MAX}
use Rattle.cache_store.specs.Open.{IsOpen}
use Rattle.cache_store.specs.Session.{session}
use Rattle.cache_tool.specs.LoadProgress.{HasLoaded, loading}
use Rattle.cache_tool.specs.Syncs.{as_made}
use Rattle.disk_theory.specs.Account.{IsCalm}
use Rattle.cache_tool.proofs.load.load_parts.Given as goal

-- the parts so far were read and done, and nothing has failed
abbrev pub invariant-parts : goal.invariant-parts
invariant-parts g l = record {
  so_far : HasLoaded (IsTrue g.D.Disk.tells) (g.S.Source.left l.fn.source) (session g.D.Disk l.fn.store l.fn.disk) (g.D.Disk.counts l.fn.disk)
      (loading l.reader l.count (g.S.Source.left l.source) (session g.D.Disk l.store l.disk) (g.D.Disk.counts l.disk));
  few : l.count ≤ used_in l.reader;
  stands : IsTrue g.D.Disk.tells → IsOpen (session g.D.Disk l.store l.disk);
  source : g.S.Source.faults l.source ≡ g.S.Source.faults l.fn.source;
  calm : IsCalm g.D.Disk (as_made g.D.Disk l.disk) l.fn.disk l.disk;
}

-- each turn that goes on takes some bytes of the dump
abbrev pub decreases-parts : goal.decreases-parts
decreases-parts g l = DUMP_MAX - used_in l.reader
