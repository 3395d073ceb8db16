use Rattle.real_disk.proofs.AnswerLaws.{renamed_answer}
use Rattle.real_disk.proofs.real_disk.RealDiskDisk.rename.Goals as goal

pub returns-clause-renamed : goal.returns-clause-renamed
returns-clause-renamed g c =
    let a = c.answer.ensures in
    let o = c.rename-outcome.ensures in
    renamed_answer g.R.Machine c.args.from.now c.args.to.now c.answer.result c.rename-outcome.result c.args.self.now c.answer.new.self c.rename-outcome.new.self
    a.value a.folder o.renamed o.followed
