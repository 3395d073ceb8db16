use Rattle.std.proofs.Common.{take, ap}
use Rattle.disk_model.specs.MemSlots.{names_in}
use Rattle.disk_model.proofs.MemReplay.{replayed}
use Rattle.disk_model.proofs.mem_image.names_then.Goals as goal

pub returns : goal.returns
returns c =
    let t = c.args.table.now in
    replayed t.slots t.steps.items (take c.args.names c.deref.result.now) t.files.items c.args.names (names_in c.in_ok-stands.stands) (names_in c.take_steps.new.slots) c.requires
    (ap (take c.args.names) c.deref.ensures.value) c.in_ok-stands.ensures c.in_ok-take_steps.ensures
