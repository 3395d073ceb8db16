use Rattle.std.proofs.Common.{[], ◌∷◌, ◌++◌, sym, ap, ◌∙◌, subst}
use Rattle.std.specs.List.{IsDistinct}
use Rattle.index_record.specs.declared.record.IndexRecord.{IndexRecord}
use Rattle.record_list.specs.Lists.{HasNames}
use Rattle.index_tests.proofs.checks.one_record.Goals as goal

one_name : (r : IndexRecord) → HasNames (r ∷ [])
unfolding IsDistinct
one_name r = (tt, tt)

pub returns : goal.returns
returns c = subst HasNames (sym (c.in_ok-push.ensures.ok ∙ ap (λ l. l ++ c.args.record ∷ []) c.new-records.ensures)) (one_name c.args.record)
