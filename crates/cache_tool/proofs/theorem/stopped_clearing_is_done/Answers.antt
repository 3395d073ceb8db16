use Rattle.cache_tool.proofs.Stops.PutClears.{put_does_stopped_clearing}
use Rattle.cache_tool.proofs.Stops.RunLeaves.{stopped_clearing_is_done}
use Rattle.cache_tool.proofs.Stops.StoppedScripts.{clear_is_none_or_all, stopped_clearing_is_none_or_all}
use Rattle.cache_tool.proofs.Stops.ShutScripts.{script_does_stopped_clearing}
use Rattle.cache_tool.proofs.theorem.stopped_clearing_is_done.Goals as goal

pub returns : goal.returns
returns c = record { stopped = stopped_clearing_is_none_or_all; clear = clear_is_none_or_all; one = stopped_clearing_is_done; script = script_does_stopped_clearing; put = put_does_stopped_clearing }
