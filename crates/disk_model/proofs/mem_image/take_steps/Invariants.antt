use Rattle.std.proofs.Common.{◌≡◌, take, reverse}
use Rattle.disk_theory.specs.State.{names_after}
use Rattle.disk_model.specs.MemSlots.{names_in}
use Rattle.disk_model.proofs.mem_image.take_steps.Given as goal

abbrev pub invariant-loop-step : goal.invariant-loop-step
invariant-loop-step l = names_in l.slots ≡ names_after (names_in l.fn.slots) (reverse (take l.step-index l.steps))
