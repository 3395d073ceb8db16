use Rattle.std.specs.BTreeSet.{IsFromIterResult}
use Rattle.std.specs.Ordering.{nat_cmp}
use Rattle.std.proofs.lemmas.Iterator.{YieldsList-from_slice}
use Rattle.std.proofs.lemmas.Iterator.Adapters.{fact_from_collect}
use Rattle.std.proofs.lemmas.Iterator.Consumers.{YieldsList-from_copied}
use Rattle.std.proofs.lemmas.Result.{IfOk-at_ok}
use Rattle.overlay_disk.proofs.listing.number_set.Goals as goal

pub returns : goal.returns
returns c =
    let made : IsFromIterResult nat_cmp c.args.numbers.now c.in_ok-collect.field-0 =
    IfOk-at_ok (IsFromIterResult nat_cmp c.args.numbers.now) c.in_ok-collect.was
    (fact_from_collect (IsFromIterResult nat_cmp) c.collect.result c.collect.ensures.ran
    (YieldsList-from_copied (YieldsList-from_slice c.args.numbers.now cc))) in
    made.0
