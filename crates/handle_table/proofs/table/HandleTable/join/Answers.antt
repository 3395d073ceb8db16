use Rattle.std.proofs.Common.{refl, ap, ◌∙◌, arith}
use Rattle.handle_table.specs.Kept.{kept_in, use_at}
use Rattle.handle_table.proofs.Joined.{joins_at}
use Rattle.handle_table.proofs.SeatLaws.{joined_used, used_joined}
use Rattle.handle_table.proofs.table.HandleTable.join.Goals as goal

pub returns-clause-joins : goal.returns-clause-joins
returns-clause-joins c = joins_at c.args.slot c.from.result (kept_in c.args.self.now) _ refl refl c.from.ensures

pub invariant_of-rows-2 : goal.invariant_of-rows-2
invariant_of-rows-2 c =
    let now = c.args.self.now in
    (used_joined now.rows.objects now.rows.slots c.from.result _ (ap (use_at (kept_in now)) c.from.ensures ∙ c.requires.free) now.rows.are_used, (now.rows.are_low, tt))

pub returns-clause-used : goal.returns-clause-used
returns-clause-used c =
    let same = c.from.ensures in
    let rows = c.has_rows.ensures.slots in
    joined_used c.args.self.now.rows.slots c.from.result c.args.place _ (omega (arith, same, rows, c.requires.slot)) refl
