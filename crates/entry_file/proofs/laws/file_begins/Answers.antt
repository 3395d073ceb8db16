use Rattle.entry_file.proofs.EntryLaws as laws
use Rattle.entry_file.proofs.laws.file_begins.Goals as goal

pub returns : goal.returns
returns c = laws.file_begins
