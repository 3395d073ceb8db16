use Rattle.startup_read.proofs.KeptLaws.{left_keeps_index, same_base_keeps_index}
use Rattle.startup_read.proofs.laws.changes_keep_index.Goals as goal

pub returns-clause-left : goal.returns-clause-left
returns-clause-left c = left_keeps_index

pub returns-clause-records : goal.returns-clause-records
returns-clause-records c = same_base_keeps_index
