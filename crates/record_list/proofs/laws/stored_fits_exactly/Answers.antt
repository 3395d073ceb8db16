use Rattle.record_list.proofs.StoredLaws as laws
use Rattle.record_list.proofs.laws.stored_fits_exactly.Goals as goal

pub returns : goal.returns
returns c = laws.stored_fits_exactly
