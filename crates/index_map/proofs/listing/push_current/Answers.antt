use Rattle.std.proofs.Common.{ap, arith, ◌∙◌, ◌++◌}
use Rattle.std.specs.Prelude.{option_to_list}
use Rattle.index_map.specs.Slots.{Slot}
use Rattle.index_map.specs.declared.mark.Mark.TheVariants.{Unseen}
use Rattle.index_map.proofs.Marked.{listed}
use Rattle.index_map.proofs.Steps.{no_record}
use Rattle.index_map.proofs.listing.push_current.Goals as goal

pub loop-i-preserved : goal.loop-i-preserved
loop-i-preserved c =
    listed (λ (slot : Slot). slot.current) c.args.records.now c.args.marks.now c.loop-i.i no_record Unseen c.args.list.now.items c.loop-i.list.items c.push_if.new.list.items c.requires (omega arith) c.loop-i.invariant
    (c.in_ok-push_if.ensures ∙ ap (λ o. c.loop-i.list.items ++ option_to_list o) c.current_of.ensures)
