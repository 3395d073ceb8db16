use Rattle.cache_theory.proofs.Clears.ClearedNames as names
use Rattle.cache_theory.proofs.Clears.ClearedGone as gone
use Rattle.cache_theory.proofs.Clears.SparedObjects as spared
use Rattle.cache_theory.proofs.laws.cleared_stay_gone.Goals as goal

pub returns : goal.returns
returns c = record { gone = gone.cleared_stay_gone; spared = spared.written_are_spared; resumed = names.resumed_leaves_none }
