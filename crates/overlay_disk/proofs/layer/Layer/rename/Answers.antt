use Rattle.std.proofs.Common.{inl, inr, sym, rules, refl, ◌∙◌, ap}
use Rattle.disk_theory.specs.State.{standing}
use Rattle.overlay_disk.specs.Seen.{Overs, overs_in, seen_as}
use Rattle.overlay_disk.specs.Shown.{files_below}
use Rattle.overlay_disk.proofs.LayerLaws.{on_err, shows_same, moved_over}
use Rattle.overlay_disk.proofs.layer.Layer.rename.Goals as goal

pub returns-in_err-make_slot-clause-err : goal.returns-in_err-make_slot-clause-err
returns-in_err-make_slot-clause-err g c =
    let files = files_below g.D.Disk c.args.self.now in
    on_err c.from_residual.result (λ told. shows_same files files (overs_in c.args.self.now.slots) (overs_in c.make_slot.new.slots) refl c.make_slot.ensures.same)

pub returns-in_err-file-clause-err : goal.returns-in_err-file-clause-err
returns-in_err-file-clause-err g c =
    let was = c.args.self.now in
    let now = c.take_file.new.self in
    on_err c.from_residual-in_err-file.result (λ told. shows_same (files_below g.D.Disk was) (files_below g.D.Disk now) (overs_in was.slots) (overs_in now.slots)
    (ap standing (c.take_file.ensures.below.state told)) (c.in_err-file.ensures.err ∙ c.make_slot.ensures.same))

pub returns-clause-ok : goal.returns-clause-ok
returns-clause-ok g c = λ told.
    let was = c.args.self.now in
    let mid = c.take_file.new.self in
    moved_over (files_below g.D.Disk was) (files_below g.D.Disk mid) (overs_in was.slots) (overs_in c.make_slot.new.slots) (overs_in mid.slots)
    (overs_in c.put.new.slots) (overs_in c.put-2.new.slots) c.args.from.now c.args.to.now c.in_ok-file.file
    (ap standing (c.take_file.ensures.below.state told)) c.make_slot.ensures.same c.in_ok-file.ensures.rest c.put.ensures.now c.put-2.ensures.now (c.in_ok-file.ensures.file told)

pub returns-in_err-file-clause-fault : goal.returns-in_err-file-clause-fault
returns-in_err-file-clause-fault g c = λ failed.
    let files = files_below g.D.Disk c.args.self.now in
    elim (c.take_file.ensures.fault (search rules)) [
      | inl rose ↦ inl rose
      | inr none ↦ inr (λ told. ap (λ (os : Overs). seen_as files c.args.from.now (os c.args.from.now)) (sym c.make_slot.ensures.same) ∙ none told)
    ]
