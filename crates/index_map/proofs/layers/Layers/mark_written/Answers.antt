use Rattle.std.proofs.Common.{ap, sym, ◌∙◌, ◌++◌}
use Rattle.index_map.specs.Slots.{rewritten, written}
use Rattle.index_map.proofs.Joined.{rewritten_apart, rewritten_join}
use Rattle.index_map.proofs.layers.Layers.mark_written.Goals as goal

pub invariant_of-self : goal.invariant_of-self
invariant_of-self c =
    rewritten_apart written c.self.inside.others c.self.inside.base c.mark_written.new.self c.mark_written-2.new.self c.mark_written.ensures.slots c.mark_written-2.ensures.slots c.self.invariant

pub returns : goal.returns
returns c = record {
  slots = (λ i. c.mark_written.ensures.slots i ++ c.mark_written-2.ensures.slots i) ∙ sym (rewritten_join written c.self.inside.others c.self.inside.base) ∙ ap (rewritten written) c.self.view_is;
}
