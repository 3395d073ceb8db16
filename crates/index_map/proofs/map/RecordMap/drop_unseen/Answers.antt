use Rattle.std.proofs.Common.{ap, ◌∙◌}
use Rattle.std.specs.Map.{values_of}
use Rattle.index_map.specs.Known.{Known}
use Rattle.index_map.specs.Slots.{base_in, shown}
use Rattle.index_map.proofs.Shown.{shown-seen_only}
use Rattle.index_map.proofs.map.RecordMap.drop_unseen.Goals as goal

pub returns : goal.returns
returns c =
    ap (λ t. shown t c.self.inside.has_base) c.keep_seen.ensures.slots ∙ shown-seen_only c.self.inside.slots c.self.inside.has_base
    ∙ ap (λ (m : Known). record m { records = m.seen }) c.self.view_is

pub invariant_of-self : goal.invariant_of-self
invariant_of-self c = λ without.
    ap (λ t. base_in (values_of t)) c.keep_seen.ensures.slots
    ∙ ap (λ (m : Known). m.base) (shown-seen_only c.self.inside.slots c.self.inside.has_base) ∙ c.self.invariant without
