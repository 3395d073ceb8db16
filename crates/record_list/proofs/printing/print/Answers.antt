use Rattle.std.proofs.Common.{subst, sym, ◌∙◌}
use Rattle.record_list.specs.Lists.{HasNames, IsByName}
use Rattle.record_list.specs.Stored.{AreClean}
use Rattle.record_list.proofs.Printed.{clean_by_name, printed}
use Rattle.record_list.proofs.printing.print.Goals as goal

pub print_sorted-requires-2-clause-clean : goal.print_sorted-requires-2-clause-clean
print_sorted-requires-2-clause-clean c =
    let sorted = c.sort.new.records.items in
    let copied = c.in_ok-sorted.ensures.items ∙ c.as_slice-records.ensures in
    subst AreClean (sym c.as_slice.ensures.value)
    (clean_by_name c.args.records.now sorted (subst (λ rs. IsByName rs sorted) copied (c.sort.ensures.by_name (subst HasNames (sym copied) c.requires.distinct))) c.requires.clean)

pub returns : goal.returns
returns c =
    let records = c.args.records.now in
    let sorted = c.as_slice.result.now in
    let copied = c.in_ok-sorted.ensures.items ∙ c.as_slice-records.ensures in
    printed c.args.front.now records sorted
    (subst (IsByName records) (sym c.as_slice.ensures.value) (subst (λ rs. IsByName rs c.sort.new.records.items) copied (c.sort.ensures.by_name (subst HasNames (sym copied) c.requires.distinct))))
    c.requires.clean c.print_sorted-2.result c.print_sorted-2.ensures.stored c.print_sorted-2.ensures.spelled
