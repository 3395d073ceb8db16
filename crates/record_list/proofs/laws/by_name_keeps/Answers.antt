use Rattle.record_list.proofs.SortedLaws as laws
use Rattle.record_list.proofs.laws.by_name_keeps.Goals as goal

pub returns : goal.returns
returns c = laws.by_name_keeps
