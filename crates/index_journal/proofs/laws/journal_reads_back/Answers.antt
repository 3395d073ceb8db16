use Rattle.index_journal.proofs.JournalLaws as laws
use Rattle.index_journal.proofs.laws.journal_reads_back.Goals as goal

pub returns : goal.returns
returns c = laws.journal_reads_back
