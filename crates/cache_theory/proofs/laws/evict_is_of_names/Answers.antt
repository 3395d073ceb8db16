use Rattle.cache_theory.proofs.Evictions.EvictNames as laws
use Rattle.cache_theory.proofs.laws.evict_is_of_names.Goals as goal

pub returns-clause-same : goal.returns-clause-same
returns-clause-same c = laws.evict_is_of_names

pub returns-clause-more : goal.returns-clause-more
returns-clause-more c = laws.begun_touches_more
