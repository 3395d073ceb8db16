use Rattle.std.proofs.Common.{ap, sym, ◌∙◌, ◌++◌}
use Rattle.index_map.specs.Slots.{rewritten, seen_only, used_in}
use Rattle.index_map.proofs.Joined.{rewritten_apart, rewritten_join}
use Rattle.index_map.proofs.Places.{all_seen}
use Rattle.index_map.proofs.all_slots.AllSlots.keep_seen.Goals as goal

pub invariant_of-self : goal.invariant_of-self
invariant_of-self c =
    let es = c.self.inside.journal in
    rewritten_apart seen_only c.self.inside.layers (used_in es) c.keep_seen.new.self (used_in c.keep_seen-2.new.self) c.keep_seen.ensures.slots (ap used_in c.keep_seen-2.ensures.places ∙ all_seen es) c.self.invariant

pub returns : goal.returns
returns c =
    let es = c.self.inside.journal in
    let is = ap used_in c.keep_seen-2.ensures.places ∙ all_seen es in
    record {
      slots = (λ i. c.keep_seen.ensures.slots i ++ is i) ∙ sym (rewritten_join seen_only c.self.inside.layers (used_in es)) ∙ ap (rewritten seen_only) c.self.view_is;
    }
