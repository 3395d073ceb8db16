use Rattle.disk_theory.specs.State.{standing}
use Rattle.disk_theory.specs.declared.place.Place.TheVariants.{Log}
use Rattle.startup_read.proofs.LargeFiles.{answer_journal}
use Rattle.startup_read.proofs.records.is_no_log.Goals as goal

pub returns-clause-none : goal.returns-clause-none
returns-clause-none g c =
    answer_journal c.fails_check.result (standing (g.D.Disk.state c.args.disk.now) Log) c.args.size c.requires c.fails_check.ensures.fails
