use Rattle.std.proofs.Common.{Some}
use Rattle.disk_model.specs.declared.mem_slots.Slot.{Slot}
use Rattle.disk_model.proofs.MemSlots.{now_put, synced_put}
use Rattle.disk_model.proofs.mem_slots.put_file.Goals as goal

pub returns-in-Some-clause-now : goal.returns-in-Some-clause-now
returns-in-Some-clause-now c =
    let new : Slot = record { synced = Some c.args.file; now = Some c.args.file } in
    now_put c.args.slots.now (c.get_mut.follows.lender new) c.args.place.now new ((c.get_mut.follows.holds new).3 c.requires)

pub returns-in-Some-clause-synced : goal.returns-in-Some-clause-synced
returns-in-Some-clause-synced c =
    let new : Slot = record { synced = Some c.args.file; now = Some c.args.file } in
    synced_put c.args.slots.now (c.get_mut.follows.lender new) c.args.place.now new ((c.get_mut.follows.holds new).3 c.requires)
