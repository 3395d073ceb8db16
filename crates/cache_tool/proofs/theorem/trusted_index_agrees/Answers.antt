use Rattle.cache_tool.proofs.Stops.RunLeaves.{trusted_index_is_scan, updated_index_is_trusted}
use Rattle.cache_tool.proofs.Stops.ShutScripts.{script_updates_index}
use Rattle.cache_tool.proofs.theorem.trusted_index_agrees.Goals as goal

pub returns : goal.returns
returns c = record { trusted = trusted_index_is_scan; updated = updated_index_is_trusted; script = script_updates_index }
