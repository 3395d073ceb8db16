use Rattle.std.proofs.Common.{refl, ◌∙◌, ap, Some}
use Rattle.overlay_disk.specs.Seen.{overs_in, with_over}
use Rattle.overlay_disk.specs.Shown.{files_below}
use Rattle.overlay_disk.specs.declared.over.Over.TheVariants.{File}
use Rattle.overlay_disk.proofs.LayerLaws.{on_err, shows_same, shows_put}
use Rattle.overlay_disk.proofs.layer.Layer.create.Goals as goal

pub returns-in_err-make_slot-clause-err : goal.returns-in_err-make_slot-clause-err
returns-in_err-make_slot-clause-err g c =
    let files = files_below g.D.Disk c.args.self.now in
    on_err c.from_residual.result (λ told. shows_same files files (overs_in c.args.self.now.slots) (overs_in c.make_slot.new.slots) refl c.make_slot.ensures.same)

pub returns-clause-ok : goal.returns-clause-ok
returns-clause-ok g c = λ told.
    let files = files_below g.D.Disk c.args.self.now in
    let file = c.empty-file.result in
    shows_put files files (overs_in c.args.self.now.slots) (overs_in c.put.new.slots) c.args.place.now (File file) _ refl
    (c.put.ensures.now ∙ ap (with_over c.args.place.now (File file)) c.make_slot.ensures.same) (ap Some (c.empty-file.ensures files))
