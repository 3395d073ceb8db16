use Rattle.disk_theory.specs.State.{standing}
use Rattle.disk_theory.specs.declared.place.Place.TheVariants.{Clear}
use Rattle.context_clear.proofs.MarkLaws.{read_tells, read_tells_mark}
use Rattle.context_clear.proofs.mark_file.stored.Goals as goal

pub returns-clause-origin : goal.returns-clause-origin
returns-clause-origin g c = λ tells.
    let read = c.in_ok-len.ensures.bytes tells in
    read_tells (standing (g.D.Disk.state c.args.disk.now) Clear) c.in_ok-len.len _ c.read.new.buf c.read_mark.result read.0 read.1 c.read_mark.ensures

pub returns-clause-exact : goal.returns-clause-exact
returns-clause-exact g c = λ tells.
    let read = c.in_ok-len.ensures.bytes tells in
    read_tells_mark (standing (g.D.Disk.state c.args.disk.now) Clear) c.in_ok-len.len _ c.read.new.buf c.read_mark.result c.bytes_fit.ensures read.0 read.1 c.read_mark.ensures
