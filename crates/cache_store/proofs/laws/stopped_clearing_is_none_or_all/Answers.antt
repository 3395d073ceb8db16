use Rattle.cache_store.proofs.Clearing.ClearedLaws as laws
use Rattle.cache_store.proofs.Clearing.StoppedResume.{stopped_resume_keeps_mark}
use Rattle.cache_store.proofs.laws.stopped_clearing_is_none_or_all.Goals as goal

pub returns-clause-stopped : goal.returns-clause-stopped
returns-clause-stopped c = laws.stopped_clearing_is_none_or_all

pub returns-clause-resumed : goal.returns-clause-resumed
returns-clause-resumed c = laws.resumed_clearing_is_none_or_all

pub returns-clause-again : goal.returns-clause-again
returns-clause-again c = stopped_resume_keeps_mark
