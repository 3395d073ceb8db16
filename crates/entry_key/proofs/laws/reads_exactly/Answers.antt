use Rattle.entry_key.proofs.KeyLaws as laws
use Rattle.entry_key.proofs.laws.reads_exactly.Goals as goal

pub returns-clause-reads : goal.returns-clause-reads
returns-clause-reads c = laws.reads_exactly

pub returns-clause-fails : goal.returns-clause-fails
returns-clause-fails c = laws.fails_exactly
