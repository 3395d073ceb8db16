use Rattle.cache_tool.proofs.PlainRun.{run_says_plainly}
use Rattle.cache_tool.proofs.laws.runs_say_plainly.Goals as goal

pub returns : goal.returns
returns c = run_says_plainly
