use Rattle.std.proofs.Common.{ap, ◌∙◌, true}
use Rattle.index_map.specs.Known.{Known}
use Rattle.index_map.specs.Slots.{shown}
use Rattle.index_map.proofs.Shown.{shown-written}
use Rattle.index_map.proofs.map.RecordMap.mark_written.Goals as goal

pub returns : goal.returns
returns c =
    ap (λ t. shown t true) c.mark_written.ensures.slots ∙ shown-written c.self.inside.slots c.self.inside.has_base
    ∙ ap (λ (m : Known). record m { base = m.records; has_base = true }) c.self.view_is
