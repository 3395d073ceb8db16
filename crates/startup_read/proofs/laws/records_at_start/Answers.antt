use Rattle.startup_read.proofs.KeptLaws.{ready_tells, unready_sees_none}
use Rattle.startup_read.proofs.laws.records_at_start.Goals as goal

pub returns-clause-ready : goal.returns-clause-ready
returns-clause-ready c = ready_tells

pub returns-clause-unready : goal.returns-clause-unready
returns-clause-unready c = unready_sees_none
