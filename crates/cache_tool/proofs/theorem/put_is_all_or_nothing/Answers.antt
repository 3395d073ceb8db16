use Rattle.cache_tool.proofs.Stops.PutOnly.{put_is_all_or_nothing as law}
use Rattle.cache_tool.proofs.theorem.put_is_all_or_nothing.Goals as goal

pub returns : goal.returns
returns c = law
