use Rattle.std.proofs.Common.{ap}
use Rattle.disk_model.specs.declared.mem_slots.Slot.{Slot}
use Rattle.disk_model.specs.MemSlots.{synced_of}
use Rattle.disk_model.proofs.MemSlots.{now_put, synced_kept}
use Rattle.disk_model.proofs.mem_slots.set_file.Goals as goal

pub returns-in-Some-clause-now : goal.returns-in-Some-clause-now
returns-in-Some-clause-now c =
    let new : Slot = record { synced = c.in-Some.slot.now.synced; now = c.args.file } in
    now_put c.args.slots.now (c.get_mut.follows.lender new) c.args.place.now new ((c.get_mut.follows.holds new).3 c.requires)

pub returns-in-Some-clause-synced : goal.returns-in-Some-clause-synced
returns-in-Some-clause-synced c =
    let new : Slot = record { synced = c.in-Some.slot.now.synced; now = c.args.file } in
    synced_kept c.args.slots.now (c.get_mut.follows.lender new) c.args.place.now new ((c.get_mut.follows.holds new).3 c.requires) (ap synced_of c.in-Some.ensures.value)
