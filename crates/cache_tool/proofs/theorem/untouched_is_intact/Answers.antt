use Rattle.cache_tool.proofs.Stops.StoppedLaws.{untouched_is_intact as law}
use Rattle.cache_tool.proofs.theorem.untouched_is_intact.Goals as goal

pub returns : goal.returns
returns c = law
