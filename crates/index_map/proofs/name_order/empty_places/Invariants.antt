use Rattle.std.proofs.Common.{◌≡◌, take}
use Rattle.std.specs.Prelude.{map}
use Rattle.index_map.specs.Slots.{new_place}
use Rattle.index_map.proofs.name_order.empty_places.Given as goal

abbrev pub invariant-loop-record : goal.invariant-loop-record
invariant-loop-record l = l.places.items ≡ map new_place (take l.record-index l.records)
