use Rattle.entry_file.proofs.StoredBody as laws
use Rattle.entry_file.proofs.laws.stores_whole.Goals as goal

pub returns : goal.returns
returns c = laws.stores_whole
