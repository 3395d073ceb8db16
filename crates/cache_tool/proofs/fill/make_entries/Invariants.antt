use Rattle.std.proofs.Common.{◌≡◌, IsTrue, Ok}
use Rattle.cache_store.specs.Open.{IsOpen}
use Rattle.cache_store.specs.Session.{session}
use Rattle.cache_tool.specs.Fill.{entries_commands, number_at}
use Rattle.cache_tool.specs.FillProgress.{RunsAll}
use Rattle.disk_theory.specs.Account.{IsCalm}
use Rattle.cache_tool.proofs.fill.make_entries.Given as goal

-- the entries so far are made
abbrev pub invariant-loop-i : goal.invariant-loop-i
invariant-loop-i g l = record {
  x : l.x ≡ number_at l.first l.i;
  runs : IsTrue g.D.Disk.tells → RunsAll {T = Unit {0}} (entries_commands l.now l.first l.i) (Ok tt) (session g.D.Disk l.fn.store l.fn.disk) (session g.D.Disk l.store l.disk);
  stands : IsTrue g.D.Disk.tells → IsOpen (session g.D.Disk l.store l.disk);
  calm : IsCalm g.D.Disk l.i l.fn.disk l.disk;
}
