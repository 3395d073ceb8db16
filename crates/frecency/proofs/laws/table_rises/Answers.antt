use Rattle.frecency.proofs.Rises.{table_rises}
use Rattle.frecency.proofs.laws.table_rises.Goals as goal

pub returns : goal.returns
returns c = table_rises
