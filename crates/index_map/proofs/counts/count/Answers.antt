use Rattle.std.proofs.Common.{ap, take, arith, length-take}
use Rattle.std.specs.Prelude.{map}
use Rattle.std.proofs.lemmas.List.{length-map}
use Rattle.index_map.specs.Slots.{bare}
use Rattle.index_map.specs.declared.counts.Counts.{Counts}
use Rattle.index_map.proofs.Held.{counts_more, none_held}
use Rattle.index_map.proofs.Sums.{changed-le, kilobytes-le, records-le}
use Rattle.index_map.proofs.counts.count.Goals as goal

pub with-counts-requires-clause-records : goal.with-counts-requires-clause-records
with-counts-requires-clause-records c =
    let front = take c.loop-slot.slot-index c.args.slots.now in
    omega (arith, ap (λ (n : Counts). n.records) c.loop-slot.invariant, records-le (map bare front), length-map front bare, length-take c.loop-slot.slot-index c.args.slots.now)

pub with-counts-requires-clause-kilobytes : goal.with-counts-requires-clause-kilobytes
with-counts-requires-clause-kilobytes c =
    let front = take c.loop-slot.slot-index c.args.slots.now in
    omega (arith, ap (λ (n : Counts). n.kilobytes) c.loop-slot.invariant, kilobytes-le (map bare front), length-map front bare, length-take c.loop-slot.slot-index c.args.slots.now)

pub with-counts-requires-clause-changed : goal.with-counts-requires-clause-changed
with-counts-requires-clause-changed c =
    let front = take c.loop-slot.slot-index c.args.slots.now in
    omega (arith, ap (λ (n : Counts). n.changed) c.loop-slot.invariant, changed-le (map bare front), length-map front bare, length-take c.loop-slot.slot-index c.args.slots.now)

pub loop-slot-preserved : goal.loop-slot-preserved
loop-slot-preserved c =
    counts_more c.args.slots.now c.loop-slot.slot-index none_held c.loop-slot.counts c.with-counts.result (omega arith) c.loop-slot.invariant
    (record { records = c.with-counts.ensures.records; kilobytes = c.with-counts.ensures.kilobytes; changed = c.with-counts.ensures.changed })
