use Rattle.cache_tool.proofs.Stops.StoppedLaws.{touched_is_gone_or_whole as law}
use Rattle.cache_tool.proofs.theorem.touched_is_gone_or_whole.Goals as goal

pub returns : goal.returns
returns c = law
