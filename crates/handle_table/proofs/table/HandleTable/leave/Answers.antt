use Rattle.std.proofs.Common.{None, ap, subst, sym, ◌∙◌}
use Rattle.std.specs.Prelude.{option_map, slice_set}
use Rattle.handle_table.specs.Kept.{kept_in, use_at}
use Rattle.handle_table.specs.Seats.{AreLow, AreUsed}
use Rattle.handle_table.specs.declared.object.Use.{Use}
use Rattle.handle_table.proofs.LowNumbers.{low_without}
use Rattle.handle_table.proofs.SeatLaws.{used_last, used_shared}
use Rattle.handle_table.proofs.table.HandleTable.leave.Goals as goal

pub invariant_of-rows : goal.invariant_of-rows
invariant_of-rows c =
    let now = c.args.self.now in record {
      are_used = used_shared now.rows.objects now.rows.slots c.from.result c.args.place (ap (λ s. option_map (λ (u : Use). u.place) (use_at (kept_in now) s)) c.from.ensures ∙ c.requires.used)
          now.rows.are_used (sym c.is_used.ensures.used ∙ c.if-is_used.true);
      are_low = now.rows.are_low;
    }

pub invariant_of-rows-2 : goal.invariant_of-rows-2
invariant_of-rows-2 c =
    let now = c.args.self.now in record {
      are_used = subst (λ objects. AreUsed objects (slice_set now.rows.slots c.from.result None)) (sym c.take_at.ensures.taken)
          (used_last now.rows.objects now.rows.slots c.from.result c.args.place (ap (λ s. option_map (λ (u : Use). u.place) (use_at (kept_in now) s)) c.from.ensures ∙ c.requires.used)
          now.rows.are_used);
      are_low = subst AreLow (sym c.take_at.ensures.taken) (low_without now.rows.objects c.args.place now.rows.are_low);
    }
