use Rattle.cache_tool.proofs.LoadTells.{load_tells_true}
use Rattle.cache_tool.proofs.laws.loads_tell_true.Goals as goal

pub returns : goal.returns
returns c = load_tells_true
