use Rattle.std.proofs.Common.{sym, ◌∙◌, ap}
use Rattle.disk_theory.proofs.KindsOfPlaces.{none_there}
use Rattle.overlay_disk.specs.Seen.{over_of}
use Rattle.overlay_disk.specs.declared.over.Over.TheVariants.{Below}
use Rattle.overlay_disk.proofs.SlotLaws.{over_kept}
use Rattle.overlay_disk.proofs.slots.make_slot.Goals as goal

pub returns-clause-same : goal.returns-clause-same
returns-clause-same c =
    over_kept c.args.slots.now c.insert.new.self c.args.place.now Below c.in_ok-insert.ensures.updates
    (sym (ap over_of (none_there _ (sym c.contains_key.ensures ∙ c.if-contains_key.false))))
