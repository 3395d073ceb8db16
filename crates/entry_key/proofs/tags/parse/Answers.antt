use Rattle.std.proofs.Common.{rules, []}
use Rattle.std.proofs.lemmas.Result.{err_from_is_err_and}
use Rattle.entry_key.proofs.Said.{tells_more}
use Rattle.entry_key.proofs.Seen.{none_seen, one_seen, order_fault, value_fault, no_address, says}
use Rattle.entry_key.proofs.tags.parse.Goals as goal

pub loop-at-init : goal.loop-at-init
loop-at-init c = ([], none_seen c.args.key.now, record { anonymous = search rules; origin = search rules; extra = search rules })

pub returns-then-letter-eq58-clause-tags : goal.returns-then-letter-eq58-clause-tags
returns-then-letter-eq58-clause-tags c =
    let i = c.loop-at.invariant in
    says c.args.key.now c.loop-at.last c.loop-at.at i.0 _ i.1 i.2 c.loop-at-test.true c.if-letter-eq58.true (search rules)

pub returns-then-letter-last-clause-fault : goal.returns-then-letter-last-clause-fault
returns-then-letter-last-clause-fault c =
    let i = c.loop-at.invariant in
    order_fault c.args.key.now c.loop-at.last c.loop-at.at i.0 i.1 c.loop-at-test.true c.if-letter-eq58.false c.if-letter-last.true

pub returns-in_err-end-clause-fault : goal.returns-in_err-end-clause-fault
returns-in_err-end-clause-fault c =
    let i = c.loop-at.invariant in
    let p = err_from_is_err_and c.from_residual.result c.from_residual.ensures.1 in
    rw (p.1, p.2) (value_fault c.args.key.now c.loop-at.last c.loop-at.at i.0 _ i.1 c.loop-at-test.true c.if-letter-eq58.false c.if-letter-last.false c.in_err-end.ensures.fault)

pub loop-at-preserved : goal.loop-at-preserved
loop-at-preserved c =
    let i = c.loop-at.invariant in
    let e = c.in_ok-end.ensures.end in
    let told = c.with_tag-tags.ensures in (
      _,
      one_seen c.args.key.now c.loop-at.last c.loop-at.at c.in_ok-end.end i.0 i.1 c.loop-at-test.true c.if-letter-eq58.false c.if-letter-last.false e,
      tells_more _ _ _ _ _ _ _ _ i.0 _ i.1.low c.if-letter-last.false i.2 e.spelled told.anonymous told.origin told.extra,
    )

pub returns-clause-fault : goal.returns-clause-fault
returns-clause-fault c =
    let i = c.loop-at.invariant in
    no_address c.args.key.now c.loop-at.last c.loop-at.at i.0 i.1 c.loop-at-test.false
