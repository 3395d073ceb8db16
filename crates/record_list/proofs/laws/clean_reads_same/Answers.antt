use Rattle.record_list.proofs.ReadingLaws as laws
use Rattle.record_list.proofs.laws.clean_reads_same.Goals as goal

pub returns : goal.returns
returns c = laws.clean_reads_same
