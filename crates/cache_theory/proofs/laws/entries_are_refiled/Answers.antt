use Rattle.cache_theory.proofs.Refiling as laws
use Rattle.cache_theory.proofs.laws.entries_are_refiled.Goals as goal

pub returns : goal.returns
returns c = laws.entries_are_refiled
