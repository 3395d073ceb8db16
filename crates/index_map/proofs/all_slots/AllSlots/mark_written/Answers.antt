use Rattle.std.proofs.Common.{ap, sym, ◌∙◌, ◌++◌}
use Rattle.index_map.specs.Slots.{rewritten, written, used_in}
use Rattle.index_map.proofs.Joined.{rewritten_apart, rewritten_join}
use Rattle.index_map.proofs.Places.{all_written}
use Rattle.index_map.proofs.all_slots.AllSlots.mark_written.Goals as goal

pub invariant_of-self : goal.invariant_of-self
invariant_of-self c =
    let es = c.self.inside.journal in
    rewritten_apart written c.self.inside.layers (used_in es) c.mark_written.new.self (used_in c.mark_written-2.new.self) c.mark_written.ensures.slots (ap used_in c.mark_written-2.ensures.places ∙ all_written es) c.self.invariant

pub returns : goal.returns
returns c =
    let es = c.self.inside.journal in
    let is = ap used_in c.mark_written-2.ensures.places ∙ all_written es in
    record {
      slots = (λ i. c.mark_written.ensures.slots i ++ is i) ∙ sym (rewritten_join written c.self.inside.layers (used_in es)) ∙ ap (rewritten written) c.self.view_is;
    }
