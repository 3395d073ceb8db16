use Rattle.std.proofs.Common.{arith, length-take, take}
use Rattle.std.specs.Map.{values_of}
use Rattle.std.specs.Prelude.{map}
use Rattle.std.proofs.lemmas.List.{length-map}
use Rattle.std.proofs.lemmas.Map.Entries.{length-values_of}
use Rattle.index_map.specs.Slots.{bare}
use Rattle.index_map.proofs.Places.{counted_place, no_entry}
use Rattle.index_map.proofs.Sums.{small}
use Rattle.index_map.proofs.counts.count_places.Goals as goal

pub with-counts-requires : goal.with-counts-requires
with-counts-requires c =
    let front = take c.loop-place.place-index (values_of c.args.places.now) in
    let fits = small c.loop-place.counts (map bare front) c.loop-place.invariant
    (omega (arith, length-map front bare, length-take c.loop-place.place-index (values_of c.args.places.now), length-values_of c.args.places.now, c.requires)) in
    record { records = fits.records; kilobytes = fits.kilobytes; changed = fits.changed }

pub loop-place-preserved : goal.loop-place-preserved
loop-place-preserved c =
    counted_place c.args.places.now c.loop-place.place-index no_entry c.loop-place.counts c.with-counts.result (omega arith) c.loop-place.invariant
    (record { records = c.with-counts.ensures.records; kilobytes = c.with-counts.ensures.kilobytes; changed = c.with-counts.ensures.changed })
