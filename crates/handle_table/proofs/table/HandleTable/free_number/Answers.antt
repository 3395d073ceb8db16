use Rattle.std.proofs.Common.{sym, subst, length, ◌<◌}
use Rattle.cache_base.specs.declared.limits.TheConstants.{SLOTS}
use Rattle.handle_table.specs.Kept.{kept_in}
use Rattle.handle_table.proofs.LowNumbers.{least_low}
use Rattle.handle_table.proofs.SeatLaws.{few_aside}
use Rattle.handle_table.proofs.table.HandleTable.free_number.Goals as goal

pub least-requires : goal.least-requires
least-requires c =
    subst (λ numbers. length numbers < SLOTS) (sym c.doomed_numbers-aside.ensures.numbers)
    (few_aside (kept_in c.args.self.now) c.args.slot c.requires.slot c.requires.free c.has_rows.ensures.objects c.has_rows.ensures.slots c.args.self.now.rows.are_used)

pub returns-clause-few : goal.returns-clause-few
returns-clause-few c = few_aside (kept_in c.args.self.now) c.args.slot c.requires.slot c.requires.free c.has_rows.ensures.objects c.has_rows.ensures.slots c.args.self.now.rows.are_used

pub returns-clause-low : goal.returns-clause-low
returns-clause-low c =
    least_low _ c.least.result c.least.ensures
    (subst (λ numbers. length numbers < SLOTS) (sym c.doomed_numbers-aside.ensures.numbers)
    (few_aside (kept_in c.args.self.now) c.args.slot c.requires.slot c.requires.free c.has_rows.ensures.objects c.has_rows.ensures.slots c.args.self.now.rows.are_used))
