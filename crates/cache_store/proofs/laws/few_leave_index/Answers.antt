use Rattle.cache_store.proofs.Records.InUseLaws as laws
use Rattle.cache_store.proofs.laws.few_leave_index.Goals as goal

pub returns-clause-spared : goal.returns-clause-spared
returns-clause-spared c = laws.few_are_spared

pub returns-clause-in_use : goal.returns-clause-in_use
returns-clause-in_use c = laws.few_stay_in_use
