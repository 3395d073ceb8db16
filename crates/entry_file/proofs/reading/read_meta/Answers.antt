use Rattle.std.proofs.Common.{◌∙◌, ap, arith}
use Rattle.disk_theory.specs.State.{State, standing}
use Rattle.entry_file.proofs.LookLaws.{looks_then, one_look}
use Rattle.entry_file.proofs.reading.read_meta.Goals as goal

pub returns-in-Some-clause-large : goal.returns-in-Some-clause-large
returns-in-Some-clause-large g c = λ told content at big.
    let before = g.D.Disk.counts c.args.disk.now in
    let mid = g.D.Disk.counts c.size.new.self in
    looks_then 1 1 2 before mid (g.D.Disk.counts c.read_sized.new.disk) (omega arith) (one_look c.size.result c.args.place.now before mid (c.size.ensures.counts told))
    (c.read_sized.ensures.large told content (ap (λ (s : State). standing s c.args.place.now) (c.in_ok-size.ensures.state told) ∙ at) big)
