use Rattle.std.proofs.Common.{◌≡◌, ◌⊎◌, None, Contains}
use Rattle.disk_theory.specs.declared.place.Place.{Place}
use Rattle.disk_model.specs.MemSlots.{names_in, synced_names_in}
use Rattle.disk_model.proofs.mem_image.synced_slots.Given as goal

abbrev pub invariant-loop-place : goal.invariant-loop-place
invariant-loop-place l =
    (p : Place) → (names_in l.synced p ≡ synced_names_in l.slots p) ⊎ (Contains l.place-iterator p × (names_in l.synced p ≡ None))
