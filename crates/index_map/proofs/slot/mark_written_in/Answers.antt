use Rattle.std.proofs.Common.{◌∙◌, arith, ap, set}
use Rattle.std.proofs.lemmas.List.{length-set}
use Rattle.std.proofs.lemmas.List.Edits.{map_over_more}
use Rattle.cache_base.specs.declared.name.Name.{Name}
use Rattle.index_map.specs.Slots.{written_held}
use Rattle.index_map.specs.declared.slot.Held.{Held}
use Rattle.index_map.proofs.slot.mark_written_in.Goals as goal

pub loop-i-preserved : goal.loop-i-preserved
loop-i-preserved c = (
  ap (λ h. set c.loop-i.places.items c.loop-i.i (c.index.result.now.0, h)) c.mark_written.ensures.slot
      ∙ map_over_more (λ (e : Name × Held). (e.0, written_held e.1)) c.args.places.now.items c.loop-i.places.items c.loop-i.i c.index.result.now (omega arith) c.loop-i.invariant.0 c.index.ensures,
  length-set c.loop-i.places.items c.loop-i.i (c.index.result.now.0, c.mark_written.new.slot) ∙ c.loop-i.invariant.1,
)
