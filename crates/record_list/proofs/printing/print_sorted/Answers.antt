use Rattle.std.proofs.Common.{◌++◌, ap, ◌∙◌}
use Rattle.record_list.specs.Lists.{names_of}
use Rattle.record_list.proofs.NameLaws.{rising_distinct}
use Rattle.record_list.proofs.Printed.{spelled}
use Rattle.record_list.proofs.printing.print_sorted.Goals as goal

pub returns-clause-stored : goal.returns-clause-stored
returns-clause-stored c =
    record { records = c.in_ok-push_records.ensures.widths; distinct = rising_distinct (names_of c.args.records.now) c.requires.sorted }

pub returns-clause-spelled : goal.returns-clause-spelled
returns-clause-spelled c =
    spelled c.args.front.now c.args.records.now c.requires.clean _ _ _
    (c.in_ok-extend.ensures.ok ∙ ap (λ ys. ys ++ c.args.front.now) c.in_ok-out.ensures)
    c.in_ok-push_records.ensures.bytes c.in_ok-push_hash.ensures
