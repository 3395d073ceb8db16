use Rattle.cache_store.proofs.Clearing.ClearedLaws as laws
use Rattle.cache_store.proofs.laws.clearing_leaves_none.Goals as goal

pub returns : goal.returns
returns c = laws.clearing_leaves_none
