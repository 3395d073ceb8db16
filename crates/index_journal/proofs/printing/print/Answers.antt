use Rattle.index_journal.proofs.JournalLaws.{printed_answer}
use Rattle.index_journal.proofs.printing.print.Goals as goal

pub returns : goal.returns
returns c = printed_answer c.args.records.now c.print.result c.print.ensures
