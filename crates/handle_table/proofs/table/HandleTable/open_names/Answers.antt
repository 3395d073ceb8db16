use Rattle.handle_table.specs.Kept.{kept_in}
use Rattle.handle_table.proofs.OpenNames.{listed_open, listed_unused}
use Rattle.handle_table.proofs.table.HandleTable.open_names.Goals as goal

pub returns-clause-names : goal.returns-clause-names
returns-clause-names c =
    listed_open (kept_in c.args.self.now) c.asked_in_order.result c.asked_in_order.ensures.names c.asked_in_order.ensures.sorted

pub returns-clause-unused : goal.returns-clause-unused
returns-clause-unused c = listed_unused (kept_in c.args.self.now) c.asked_in_order.result c.asked_in_order.ensures.names
