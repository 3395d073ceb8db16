use Rattle.std.proofs.Common.{◌≡◌, ◌⊎◌, drop}
use Rattle.disk_theory.specs.declared.place.Place.{Place}
use Rattle.disk_model.specs.MemSlots.{names_in, synced_names_in, IsNamedBy}
use Rattle.disk_model.proofs.mem_slots.settle_names.Given as goal

abbrev pub invariant-loop-step : goal.invariant-loop-step
invariant-loop-step l =
    (names_in l.slots ≡ names_in l.fn.slots) × ((p : Place) → IsNamedBy p (drop l.step-index l.steps) ⊎ (synced_names_in l.slots p ≡ names_in l.slots p))
