use Rattle.cache_tool.proofs.Stops.StoppedLaws.{cleared_stays_gone as law}
use Rattle.cache_tool.proofs.theorem.cleared_stays_gone.Goals as goal

pub returns : goal.returns
returns c = law
