use Rattle.std.proofs.Common.{◌∙◌, arith, get_or, ap, set}
use Rattle.std.proofs.lemmas.List.{length-set}
use Rattle.std.proofs.lemmas.List.Edits.{map_over_more}
use Rattle.index_map.specs.Slots.{written_mark}
use Rattle.index_map.proofs.Marked.{get_or_any}
use Rattle.index_map.proofs.mark.mark_written.Goals as goal

pub loop-i-preserved : goal.loop-i-preserved
loop-i-preserved c = (
  ap (set c.loop-i.marks.items c.loop-i.i) (c.written_mark.ensures ∙ ap written_mark c.index.ensures)
      ∙ map_over_more written_mark c.args.marks.now.items c.loop-i.marks.items c.loop-i.i (get_or c.loop-i.marks.items c.loop-i.i c.index.result.now) (omega arith) c.loop-i.invariant.0 (get_or_any c.loop-i.marks.items c.loop-i.i c.index.result.now (get_or c.loop-i.marks.items c.loop-i.i c.index.result.now) (omega arith)),
  length-set c.loop-i.marks.items c.loop-i.i c.written_mark.result ∙ c.loop-i.invariant.1,
)
