use Rattle.std.proofs.Common.{sym, ◌∙◌}
use Rattle.disk_theory.proofs.KindsOfPlaces.{none_there}
use Rattle.disk_model.proofs.MemSlots.{new_slot}
use Rattle.disk_model.proofs.mem_slots.make_slot.Goals as goal

pub returns-clause-same : goal.returns-clause-same
returns-clause-same c =
    new_slot c.args.slots.now c.insert.new.self c.args.place.now c.in_ok-insert.ensures.updates (none_there _ (sym c.contains_key.ensures ∙ c.if-contains_key.false))
