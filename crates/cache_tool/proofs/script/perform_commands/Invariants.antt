use Rattle.std.proofs.Common.{◌≡◌, ◌≤◌, ◌-◌, IsTrue}
use Rattle.cache_base.specs.declared.limits.TheConstants.{SCRIPT_MAX}
use Rattle.cache_script.specs.Reader.{given_in}
use Rattle.cache_store.specs.Open.{IsOpen}
use Rattle.cache_replies.specs.Saying.{TakesMore}
use Rattle.cache_store.specs.Session.{session}
use Rattle.cache_tool.specs.ScriptProgress.{HasPerformed}
use Rattle.cache_tool.specs.World.{progress}
use Rattle.cache_tool.proofs.script.perform_commands.Given as goal

-- all that was read was performed, and nothing has failed but looks that are answered
abbrev pub invariant-turns : goal.invariant-turns
invariant-turns g l = record {
  goes : let at = progress g.S.Source g.K.Sink g.D.Disk in
      HasPerformed g.D.Disk.tells l.reader (at l.fn.store l.fn.source l.fn.sink l.fn.disk) (at l.store l.source l.sink l.disk);
  open_still : IsTrue g.D.Disk.tells → IsOpen (session g.D.Disk l.store l.disk);
  grows : IsTrue g.D.Disk.tells → TakesMore (g.K.Sink.taken l.fn.sink) (g.K.Sink.taken l.sink);
  source : g.S.Source.faults l.source ≡ g.S.Source.faults l.fn.source;
  sink : g.K.Sink.faults l.sink ≡ g.K.Sink.faults l.fn.sink;
  later : g.D.Disk.faults l.fn.disk ≤ g.D.Disk.faults l.disk;
  went_on : IsTrue g.D.Disk.tells → (g.D.Disk.counts l.disk).failed ≡ (g.D.Disk.counts l.fn.disk).failed;
}

-- each turn that goes on gives a command more
abbrev pub decreases-turns : goal.decreases-turns
decreases-turns g l = SCRIPT_MAX - given_in l.reader
