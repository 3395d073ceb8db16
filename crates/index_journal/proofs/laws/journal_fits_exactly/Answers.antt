use Rattle.index_journal.proofs.JournalLaws as laws
use Rattle.index_journal.proofs.laws.journal_fits_exactly.Goals as goal

pub returns : goal.returns
returns c = laws.journal_fits_exactly
