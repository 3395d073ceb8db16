use Rattle.cache_tool.proofs.Stops.PutGot.{put_is_got as law}
use Rattle.cache_tool.proofs.theorem.put_is_got.Goals as goal

pub returns : goal.returns
returns c = law
