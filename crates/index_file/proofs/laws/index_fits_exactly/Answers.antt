use Rattle.index_file.proofs.IndexLaws as laws
use Rattle.index_file.proofs.laws.index_fits_exactly.Goals as goal

pub returns : goal.returns
returns c = laws.index_fits_exactly
