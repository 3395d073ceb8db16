use Rattle.std.proofs.Common.{None, refl, ◌∙◌, ap}
use Rattle.disk_theory.specs.State.{standing}
use Rattle.overlay_disk.specs.Seen.{overs_in, with_over}
use Rattle.overlay_disk.specs.Shown.{files_below}
use Rattle.overlay_disk.specs.declared.over.Over.TheVariants.{Below, Gone}
use Rattle.overlay_disk.proofs.SlotLaws.{with_over-twice}
use Rattle.overlay_disk.proofs.LayerLaws.{on_err, shows_same, shows_put}
use Rattle.overlay_disk.proofs.layer.Layer.remove.Goals as goal

pub returns-in_err-_gone-clause-err : goal.returns-in_err-_gone-clause-err
returns-in_err-_gone-clause-err g c =
    let was = c.args.self.now in
    let now = c.take_file.new.self in
    on_err c.from_residual.result (λ told. shows_same (files_below g.D.Disk was) (files_below g.D.Disk now) (overs_in was.slots) (overs_in now.slots)
    (ap standing (c.take_file.ensures.below.state told)) c.in_err-_gone.ensures.err)

pub returns-clause-ok : goal.returns-clause-ok
returns-clause-ok g c = λ told.
    let was = c.args.self.now in
    let mid = c.take_file.new.self in
    let p = c.args.place.now in
    shows_put (files_below g.D.Disk was) (files_below g.D.Disk mid) (overs_in was.slots) (overs_in c.put.new.slots) p Gone None
    (ap standing (c.take_file.ensures.below.state told))
    (c.put.ensures.now ∙ ap (with_over p Gone) c.in_ok-_gone.ensures.rest ∙ with_over-twice p Below Gone (overs_in was.slots)) refl
