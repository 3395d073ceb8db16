use Rattle.handle_table.specs.Kept.{kept_in}
use Rattle.handle_table.proofs.AskedNames.{listed_covered}
use Rattle.handle_table.proofs.table.HandleTable.open_of.Goals as goal

pub returns-clause-names : goal.returns-clause-names
returns-clause-names c =
    listed_covered (kept_in c.args.self.now) c.args.origin c.asked_in_order.result c.asked_in_order.ensures.names
    c.asked_in_order.ensures.sorted
