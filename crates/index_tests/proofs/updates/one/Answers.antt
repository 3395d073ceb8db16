use Rattle.std.proofs.Common.{◌∙◌, ◌∷◌, ◌++◌, [], ap, subst, sym}
use Rattle.std.specs.List.{IsDistinct}
use Rattle.index_record.specs.declared.record.IndexRecord.{IndexRecord}
use Rattle.record_list.specs.Lists.{HasNames}
use Rattle.index_tests.proofs.updates.one.Goals as goal

one_name : (r : IndexRecord) → HasNames (r ∷ [])
unfolding IsDistinct
one_name r = (tt, tt)

pub returns-clause-names : goal.returns-clause-names
returns-clause-names c = subst HasNames (sym (c.in_ok-push.ensures.ok ∙ ap (λ l. l ++ c.args.r ∷ []) c.new-list.ensures)) (one_name c.args.r)
