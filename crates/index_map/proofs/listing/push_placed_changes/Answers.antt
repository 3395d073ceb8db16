use Rattle.std.proofs.Common.{ap, arith, ◌∙◌, ◌++◌}
use Rattle.std.specs.Prelude.{option_to_list}
use Rattle.index_map.specs.Slots.{change_in}
use Rattle.index_map.proofs.Places.{no_entry, placed_more}
use Rattle.index_map.proofs.listing.push_placed_changes.Goals as goal

pub loop-place-preserved : goal.loop-place-preserved
loop-place-preserved c =
    placed_more change_in c.args.places.now c.loop-place.place-index no_entry c.args.list.now.items c.loop-place.list.items c.push_if.new.list.items (omega arith) c.loop-place.invariant
    (c.in_ok-push_if.ensures ∙ ap (λ o. c.loop-place.list.items ++ option_to_list o) c.change.ensures)
