use Rattle.std.specs.BTreeSet.{IsFromIterResult}
use Rattle.std.proofs.lemmas.Iterator.{YieldsList-from_slice}
use Rattle.std.proofs.lemmas.Iterator.Adapters.{fact_from_collect}
use Rattle.std.proofs.lemmas.Iterator.Consumers.{YieldsList-from_copied}
use Rattle.std.proofs.lemmas.Result.{IfOk-at_ok}
use Rattle.cache_base.specs.Names.{name_cmp}
use Rattle.cache_base.proofs.names.name_set.Goals as goal

pub returns-clause-has : goal.returns-clause-has
returns-clause-has c =
    let made : IsFromIterResult name_cmp c.args.names.now c.in_ok-collect.field-0 =
    IfOk-at_ok (IsFromIterResult name_cmp c.args.names.now) c.in_ok-collect.was
    (fact_from_collect (IsFromIterResult name_cmp) c.collect.result c.collect.ensures.ran
    (YieldsList-from_copied (YieldsList-from_slice c.args.names.now cc))) in
    made.0
