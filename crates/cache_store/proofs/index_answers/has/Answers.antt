use Rattle.std.proofs.Common.{◌∙◌, sym, ap}
use Rattle.std.specs.Prelude.{is_some}
use Rattle.cache_store.proofs.Records.HasEntry.{has_bad, has_no, has_unknown, has_yes}
use Rattle.cache_store.proofs.index_answers.has.Goals as goal

pub returns-then-not-may_write-clause-answers : goal.returns-then-not-may_write-clause-answers
returns-then-not-may_write-clause-answers c = has_bad c.args.key.now c.args.index.now (sym c.may_write.ensures ∙ c.if-not-may_write.true)

pub returns-then-waits_for-clause-answers : goal.returns-then-waits_for-clause-answers
returns-then-waits_for-clause-answers c =
    has_unknown c.args.key.now c.args.index.now (sym c.may_write.ensures ∙ c.if-not-may_write.false) c.name_of-name.result c.name_of-name.ensures
    (sym c.waits_for.ensures.waits ∙ c.if-waits_for.true)

pub returns-then-is_some-clause-answers : goal.returns-then-is_some-clause-answers
returns-then-is_some-clause-answers c =
    has_yes c.args.key.now c.args.index.now (sym c.may_write.ensures ∙ c.if-not-may_write.false) c.name_of-name.result c.name_of-name.ensures
    (sym c.waits_for.ensures.waits ∙ c.if-waits_for.false) (ap is_some (sym c.get.ensures.record) ∙ sym c.is_some.ensures ∙ c.if-is_some.true)

pub returns-else-is_some-clause-answers : goal.returns-else-is_some-clause-answers
returns-else-is_some-clause-answers c =
    has_no c.args.key.now c.args.index.now (sym c.may_write.ensures ∙ c.if-not-may_write.false) c.name_of-name.result c.name_of-name.ensures
    (sym c.waits_for.ensures.waits ∙ c.if-waits_for.false) (ap is_some (sym c.get.ensures.record) ∙ sym c.is_some.ensures ∙ c.if-is_some.false)
