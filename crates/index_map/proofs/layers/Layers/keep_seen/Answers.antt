use Rattle.std.proofs.Common.{ap, sym, ◌∙◌, ◌++◌}
use Rattle.index_map.specs.Slots.{rewritten, seen_only}
use Rattle.index_map.proofs.Joined.{rewritten_apart, rewritten_join}
use Rattle.index_map.proofs.layers.Layers.keep_seen.Goals as goal

pub invariant_of-self : goal.invariant_of-self
invariant_of-self c =
    rewritten_apart seen_only c.self.inside.others c.self.inside.base c.keep_seen.new.self c.keep_seen-2.new.self c.keep_seen.ensures.slots c.keep_seen-2.ensures.slots c.self.invariant

pub returns : goal.returns
returns c = record {
  slots = (λ i. c.keep_seen.ensures.slots i ++ c.keep_seen-2.ensures.slots i) ∙ sym (rewritten_join seen_only c.self.inside.others c.self.inside.base) ∙ ap (rewritten seen_only) c.self.view_is;
}
