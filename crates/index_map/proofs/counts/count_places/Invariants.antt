use Rattle.std.proofs.Common.{◌≡◌, take}
use Rattle.std.specs.Map.{values_of}
use Rattle.std.specs.Prelude.{map}
use Rattle.index_map.specs.Slots.{bare, counts_of}
use Rattle.index_map.proofs.counts.count_places.Given as goal

abbrev pub invariant-loop-place : goal.invariant-loop-place
invariant-loop-place l = l.counts ≡ counts_of (map bare (take l.place-index (values_of l.places)))
