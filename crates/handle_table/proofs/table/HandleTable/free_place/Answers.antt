use Rattle.std.proofs.Common.{sym, ◌∙◌}
use Rattle.handle_table.specs.Kept.{kept_in}
use Rattle.handle_table.proofs.SeatLaws.{some_free}
use Rattle.handle_table.proofs.table.HandleTable.free_place.Goals as goal

pub unreachable-requires : goal.unreachable-requires
unreachable-requires c =
    some_free (kept_in c.args.self.now) c.args.slot c.requires.slot c.requires.free c.has_rows.ensures.objects c.has_rows.ensures.slots c.args.self.now.rows.are_used (sym c.first_free.ensures ∙ c.in-None.is)
