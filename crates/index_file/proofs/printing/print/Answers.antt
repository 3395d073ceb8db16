use Rattle.std.proofs.Common.{subst}
use Rattle.std.specs.Prelude.{IfOk}
use Rattle.record_list.specs.Stored as records
use Rattle.index_file.proofs.PrintedIndex.{printed_answer}
use Rattle.index_file.proofs.printing.print.Goals as goal

pub returns : goal.returns
returns c =
    printed_answer c.args.records.now c.args.timestamp c.args.dirty c.print.result c.requires.present c.ranges.timestamp.fits
    (subst (λ front. IfOk c.print.result (records.IsPrinted front c.args.records.now)) c.header.ensures c.print.ensures)
