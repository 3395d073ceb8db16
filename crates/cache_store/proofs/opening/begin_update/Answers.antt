use Rattle.std.proofs.Common.{Err, Ok}
use Rattle.cache_store.proofs.Sessions.BehindOpening.{look_behind}
use Rattle.index_theory.specs.Ever.{entries_on}
use Rattle.index_update.specs.declared.update.Update.{Update}
use Rattle.index_update.proofs.TellLaws.{begin_tells}
use Rattle.cache_store.proofs.opening.begin_update.Goals as goal

pub returns-clause-tells : goal.returns-clause-tells
returns-clause-tells g c = λ told none.
    let s = g.D.Disk.state c.args.disk.now in
    c.drop_unseen_at_end.ensures.tells (entries_on s) (begin_tells s c.args.map c.in_ok-begin.field-0 (c.in_ok-begin.ensures.rest told) none)

pub returns-clause-once : goal.returns-clause-once
returns-clause-once g c = λ told. look_behind (Ok c.in_ok-begin.field-0) (g.D.Disk.counts c.args.disk.now) (g.D.Disk.counts c.begin.new.disk) (c.in_ok-begin.ensures.counts told)

pub returns-in_err-begin-clause-once : goal.returns-in_err-begin-clause-once
returns-in_err-begin-clause-once g c = λ told. look_behind {T = Update} (Err c.in_err-begin.field-0.0) (g.D.Disk.counts c.args.disk.now) (g.D.Disk.counts c.begin.new.disk) (c.in_err-begin.ensures.counts told)
