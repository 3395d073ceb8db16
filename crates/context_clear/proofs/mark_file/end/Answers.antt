use Rattle.std.specs.Prelude.{IsTrue}
use Rattle.context_clear.proofs.MarkStored.{on_ended}
use Rattle.context_clear.proofs.mark_file.end.Goals as goal

pub returns-clause-stands : goal.returns-clause-stands
returns-clause-stands g c =
    (on_ended (IsTrue g.D.Disk.tells) (g.D.Disk.state c.args.disk.now) (g.D.Disk.state c.remove.new.self) (g.D.Disk.state c.sync.new.self) c.sync.result c.in_ok-remove.ensures.state c.sync.ensures.state).0

pub returns-clause-gone : goal.returns-clause-gone
returns-clause-gone g c =
    (on_ended (IsTrue g.D.Disk.tells) (g.D.Disk.state c.args.disk.now) (g.D.Disk.state c.remove.new.self) (g.D.Disk.state c.sync.new.self) c.sync.result c.in_ok-remove.ensures.state c.sync.ensures.state).1
