use Rattle.std.proofs.Common.{take, arith, length-take}
use Rattle.std.specs.Map.{values_of}
use Rattle.index_map.specs.Slots.{marked_in}
use Rattle.index_map.specs.declared.mark.Mark.TheVariants.{Unseen}
use Rattle.index_map.proofs.Marked.{counted_more, marked_long}
use Rattle.index_map.proofs.Steps.{no_record}
use Rattle.index_map.proofs.Sums.{small}
use Rattle.index_map.proofs.counts.count_marked.Goals as goal

pub with_marked-counts-requires-clause-records : goal.with_marked-counts-requires-clause-records
with_marked-counts-requires-clause-records c =
    let rs = take c.loop-i.i c.args.records.now in
    let ms = take c.loop-i.i c.args.marks.now in
    (small c.loop-i.counts (values_of (marked_in rs ms)) c.loop-i.invariant (omega (arith, marked_long rs ms, length-take c.loop-i.i c.args.records.now, c.requires.small))).records

pub with_marked-counts-requires-clause-kilobytes : goal.with_marked-counts-requires-clause-kilobytes
with_marked-counts-requires-clause-kilobytes c =
    let rs = take c.loop-i.i c.args.records.now in
    let ms = take c.loop-i.i c.args.marks.now in
    (small c.loop-i.counts (values_of (marked_in rs ms)) c.loop-i.invariant (omega (arith, marked_long rs ms, length-take c.loop-i.i c.args.records.now, c.requires.small))).kilobytes

pub with_marked-counts-requires-clause-changed : goal.with_marked-counts-requires-clause-changed
with_marked-counts-requires-clause-changed c =
    let rs = take c.loop-i.i c.args.records.now in
    let ms = take c.loop-i.i c.args.marks.now in
    (small c.loop-i.counts (values_of (marked_in rs ms)) c.loop-i.invariant (omega (arith, marked_long rs ms, length-take c.loop-i.i c.args.records.now, c.requires.small))).changed

pub loop-i-preserved : goal.loop-i-preserved
loop-i-preserved c =
    counted_more c.args.records.now c.args.marks.now c.loop-i.i no_record Unseen c.loop-i.counts c.with_marked-counts.result c.requires.long (omega arith) c.loop-i.invariant
    c.with_marked-counts.ensures.records c.with_marked-counts.ensures.kilobytes c.with_marked-counts.ensures.changed
