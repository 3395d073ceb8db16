use Rattle.handle_table.specs.Kept.{kept_in}
use Rattle.handle_table.proofs.AskedNames.{listed_writing}
use Rattle.handle_table.proofs.table.HandleTable.writing_names.Goals as goal

pub returns : goal.returns
returns c =
    listed_writing (kept_in c.args.self.now) c.asked_in_order.result c.asked_in_order.ensures.names c.asked_in_order.ensures.sorted
