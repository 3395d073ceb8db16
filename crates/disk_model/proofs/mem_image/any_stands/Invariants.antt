use Rattle.std.proofs.Common.{◌≡◌, ◌⊎◌, None, Contains}
use Rattle.disk_theory.specs.declared.place.Place.{Place}
use Rattle.disk_model.specs.MemSlots.{names_in}
use Rattle.disk_model.proofs.mem_image.any_stands.Given as goal

abbrev pub invariant-loop-place : goal.invariant-loop-place
invariant-loop-place l = (p : Place) → (names_in l.slots p ≡ None) ⊎ Contains l.place-iterator p
