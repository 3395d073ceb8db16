use Rattle.std.proofs.Common.{sym, ◌∙◌}
use Rattle.handle_table.proofs.LowNumbers.{low_at}
use Rattle.handle_table.proofs.table.HandleTable.take.Goals as goal

pub returns-clause-low : goal.returns-clause-low
returns-clause-low c =
    low_at c.args.self.now.rows.objects c.args.place c.in-Some.object (sym c.take_at.ensures.found ∙ c.in-Some.is) c.args.self.now.rows.are_low
