use Rattle.real_disk.proofs.AnswerLaws.{removed_answer}
use Rattle.real_disk.proofs.real_disk.RealDiskDisk.remove.Goals as goal

pub returns-clause-removed : goal.returns-clause-removed
returns-clause-removed g c =
    let a = c.answer.ensures in
    let o = c.remove-outcome.ensures in
    removed_answer g.R.Machine c.args.place.now c.answer.result c.remove-outcome.result c.args.self.now c.answer.new.self c.remove-outcome.new.self
    a.value a.folder o.removed o.closed
