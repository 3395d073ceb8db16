use Rattle.real_disk.proofs.AnswerLaws.{synced_answer}
use Rattle.real_disk.proofs.real_disk.RealDiskDisk.sync.Goals as goal

pub returns-clause-synced : goal.returns-clause-synced
returns-clause-synced g c =
    let a = c.answer.ensures in
    let o = c.sync-outcome.ensures in
    synced_answer c.answer.result c.sync-outcome.result c.answer.new.self c.sync-outcome.new.self a.value a.folder o.files o.names o.earlier
