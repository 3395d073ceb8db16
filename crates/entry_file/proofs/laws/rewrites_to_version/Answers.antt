use Rattle.entry_file.proofs.StoredBody as laws
use Rattle.entry_file.proofs.laws.rewrites_to_version.Goals as goal

pub returns : goal.returns
returns c = laws.rewrites_to_version
