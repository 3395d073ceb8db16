use Rattle.cache_tool.proofs.ClearedInRun.{cleared_stay_gone_in_run}
use Rattle.cache_tool.proofs.SameLaws.{done_is_same, run_is_of_script}
use Rattle.cache_tool.proofs.laws.runs_are_of_scripts.Goals as goal

pub returns : goal.returns
returns c = record { same = done_is_same; run = run_is_of_script; cleared = cleared_stay_gone_in_run }
