use Rattle.std.proofs.Common.{ap}
use Rattle.disk_theory.specs.State.{standing}
use Rattle.disk_theory.specs.State.Write.{Patch}
use Rattle.overlay_disk.specs.Seen.{overs_in}
use Rattle.overlay_disk.specs.Shown.{files_below}
use Rattle.overlay_disk.proofs.LayerLaws.{on_err, on_err_then, on_ok_then, shows_same, wrote_over, kept_over}
use Rattle.overlay_disk.proofs.layer.Layer.patch.Goals as goal

pub returns-in_err-file-clause-err : goal.returns-in_err-file-clause-err
returns-in_err-file-clause-err g c =
    let was = c.args.self.now in
    let now = c.take_file.new.self in
    on_err c.from_residual.result (λ told. shows_same (files_below g.D.Disk was) (files_below g.D.Disk now) (overs_in was.slots) (overs_in now.slots)
    (ap standing (c.take_file.ensures.below.state told)) c.in_err-file.ensures.err)

pub returns-clause-ok : goal.returns-clause-ok
returns-clause-ok g c =
    let was = c.args.self.now in
    let mid = c.take_file.new.self in
    let after = c.patch-outcome in
    on_ok_then after.result after.ensures.ok (λ wrote told. wrote_over (files_below g.D.Disk was) (files_below g.D.Disk mid) (standing (g.D.Disk.state after.new.below.disk))
    (overs_in was.slots) (overs_in mid.slots) (overs_in c.put.new.slots) c.args.place.now c.in_ok-file.file after.new.self
    (ap standing (c.take_file.ensures.below.state told)) (ap standing (after.ensures.seen.state told)) c.in_ok-file.ensures.rest c.put.ensures.now (c.in_ok-file.ensures.file told)
    (Patch c.args.from c.args.bytes.now) (wrote told))

pub returns-clause-err : goal.returns-clause-err
returns-clause-err g c =
    let was = c.args.self.now in
    let mid = c.take_file.new.self in
    let after = c.patch-outcome in
    on_err_then after.result after.ensures.err (λ same told. kept_over (files_below g.D.Disk was) (files_below g.D.Disk mid) (standing (g.D.Disk.state after.new.below.disk))
    (overs_in was.slots) (overs_in mid.slots) (overs_in c.put.new.slots) c.args.place.now c.in_ok-file.file after.new.self
    (ap standing (c.take_file.ensures.below.state told)) (ap standing (after.ensures.seen.state told)) c.in_ok-file.ensures.rest c.put.ensures.now (c.in_ok-file.ensures.file told)
    same)
