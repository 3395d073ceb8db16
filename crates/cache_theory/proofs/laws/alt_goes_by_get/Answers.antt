use Rattle.cache_theory.proofs.AltReplies as laws
use Rattle.cache_theory.proofs.laws.alt_goes_by_get.Goals as goal

pub returns-clause-replies : goal.returns-clause-replies
returns-clause-replies c = laws.alt_is_of_get

pub returns-clause-stays : goal.returns-clause-stays
returns-clause-stays c = laws.alt_stays
