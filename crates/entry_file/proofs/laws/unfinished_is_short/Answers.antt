use Rattle.entry_file.proofs.StopLaws as laws
use Rattle.entry_file.proofs.laws.unfinished_is_short.Goals as goal

pub returns-clause-tail : goal.returns-clause-tail
returns-clause-tail c = laws.short_tail

pub returns-clause-file : goal.returns-clause-file
returns-clause-file c = laws.unfinished_is_short
