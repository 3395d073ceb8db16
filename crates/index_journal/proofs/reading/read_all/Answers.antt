use Rattle.std.proofs.lemmas.Result.{err_from_is_err_and}
use Rattle.index_journal.proofs.JournalLaws as laws
use Rattle.index_journal.proofs.reading.read_all.Goals as goal

pub returns-then-b-lt-LEAST-clause-fault : goal.returns-then-b-lt-LEAST-clause-fault
returns-then-b-lt-LEAST-clause-fault c = laws.short c.args.b.now c.if-b-lt-LEAST.true

pub returns-in_err-records-clause-fault : goal.returns-in_err-records-clause-fault
returns-in_err-records-clause-fault c =
    let p = err_from_is_err_and c.from_residual.result c.from_residual.ensures.1 in
    rw (p.1, p.2) (laws.of_records c.args.b.now c.if-b-lt-LEAST.false c.in_err-records.field-0.0 c.in_err-records.ensures.fault)

pub returns-clause-passes : goal.returns-clause-passes
returns-clause-passes c = laws.fits c.args.b.now c.if-b-lt-LEAST.false c.in_ok-records.ensures.passes
