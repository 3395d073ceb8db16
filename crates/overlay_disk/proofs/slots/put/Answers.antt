use Rattle.overlay_disk.proofs.SlotLaws.{over_put}
use Rattle.overlay_disk.proofs.slots.put.Goals as goal

pub returns-in-Some-clause-now : goal.returns-in-Some-clause-now
returns-in-Some-clause-now c =
    over_put c.args.slots.now (c.get_mut.follows.lender c.args.over) c.args.place.now c.args.over ((c.get_mut.follows.holds c.args.over).3 c.requires)
