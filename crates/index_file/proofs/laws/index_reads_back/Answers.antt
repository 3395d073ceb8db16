use Rattle.index_file.proofs.IndexLaws as laws
use Rattle.index_file.proofs.laws.index_reads_back.Goals as goal

pub returns : goal.returns
returns c = laws.index_reads_back
