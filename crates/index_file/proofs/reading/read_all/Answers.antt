use Rattle.std.proofs.Common.{subst, sym, ap, ◌∙◌}
use Rattle.std.proofs.lemmas.Result.{err_from_is_err_and}
use Rattle.index_file.proofs.FirstFault as fault
use Rattle.record_list.specs.Stored as records
use Rattle.index_file.proofs.reading.read_all.Goals as goal

pub returns-then-b-lt-LEAST-clause-fault : goal.returns-then-b-lt-LEAST-clause-fault
returns-then-b-lt-LEAST-clause-fault c = fault.short c.args.b.now c.if-b-lt-LEAST.true

pub returns-then-u32_at-ne-VERSION-clause-fault : goal.returns-then-u32_at-ne-VERSION-clause-fault
returns-then-u32_at-ne-VERSION-clause-fault c =
    fault.version c.args.b.now c.if-b-lt-LEAST.false (λ same. c.if-u32_at-ne-VERSION.true (c.u32_at.ensures ∙ same))

pub returns-in_err-records-clause-fault : goal.returns-in_err-records-clause-fault
returns-in_err-records-clause-fault c =
    let p = err_from_is_err_and c.from_residual.result c.from_residual.ensures.1 in
    rw (p.1, p.2)
    (fault.of_records c.args.b.now c.if-b-lt-LEAST.false (sym c.u32_at.ensures ∙ c.if-u32_at-ne-VERSION.false) c.in_err-records.field-0.0
    (subst (λ part. records.IsFirstFault part c.in_err-records.field-0.0) c.split_at.ensures.back c.in_err-records.ensures.fault))

pub returns-clause-passes : goal.returns-clause-passes
returns-clause-passes c =
    fault.fits c.args.b.now c.if-b-lt-LEAST.false (sym c.u32_at.ensures ∙ c.if-u32_at-ne-VERSION.false)
    (ap records.records_fault (sym c.split_at.ensures.back) ∙ c.in_ok-records.ensures.passes)
