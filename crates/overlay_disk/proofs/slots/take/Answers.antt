use Rattle.std.proofs.Common.{◌≡◌, ◌∙◌, ap, rules}
use Rattle.overlay_disk.specs.Seen.{overs_in, with_over}
use Rattle.overlay_disk.specs.declared.over.Over.{Over}
use Rattle.overlay_disk.specs.declared.over.Over.TheVariants.{Below}
use Rattle.overlay_disk.proofs.SlotLaws.{over_put}
use Rattle.overlay_disk.proofs.slots.take.Goals as goal

pub returns-clause-rest : goal.returns-clause-rest
returns-clause-rest c =
    let new : Over = c.replace.new.dest in
    let left : new ≡ Below = search rules in
    over_put c.args.slots.now (c.get_mut.follows.lender new) c.args.place.now new ((c.get_mut.follows.holds new).3 c.requires)
    ∙ ap (λ over. with_over c.args.place.now over (overs_in c.args.slots.now)) left
