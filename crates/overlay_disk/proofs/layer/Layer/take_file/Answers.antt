use Rattle.std.proofs.Common.{inr, ◌≡◌, ◌∙◌, ap, sym, Some, rules}
use Rattle.disk_theory.specs.Image.{Files}
use Rattle.overlay_disk.specs.Seen.{Overs, overs_in, seen_as}
use Rattle.overlay_disk.specs.Shown.{files_below}
use Rattle.overlay_disk.specs.declared.over.Over.TheVariants.{Below, Gone}
use Rattle.overlay_disk.proofs.LayerLaws.{none_below, on_err, put_back, took_none, whole_below}
use Rattle.overlay_disk.proofs.layer.Layer.take_file.Goals as goal

pub returns-in_err-len-in-Below-clause-err : goal.returns-in_err-len-in-Below-clause-err
returns-in_err-len-in-Below-clause-err g c =
    on_err c.from_residual-in_err-len-in-Below.result
    (took_none (overs_in c.args.self.now.slots) (overs_in c.make_slot.new.slots) (overs_in c.take.new.slots) c.args.place.now
    c.make_slot.ensures.same c.take.ensures.rest (sym c.take.ensures.over ∙ c.in-Below.is))

pub returns-in-File-clause-file : goal.returns-in-File-clause-file
returns-in-File-clause-file g c = λ told.
    let files = files_below g.D.Disk c.args.self.now in
    ap (seen_as files c.args.place.now) (sym c.in-File.is ∙ c.take.ensures.over ∙ ap (λ (os : Overs). os c.args.place.now) c.make_slot.ensures.same)

pub returns-in-Gone-clause-err : goal.returns-in-Gone-clause-err
returns-in-Gone-clause-err g c =
    put_back (overs_in c.args.self.now.slots) (overs_in c.make_slot.new.slots) (overs_in c.take.new.slots) (overs_in c.put.new.slots) c.args.place.now Gone
    c.make_slot.ensures.same c.take.ensures.rest c.put.ensures.now (sym c.take.ensures.over ∙ c.in-Gone.is)

pub returns-in-Some-clause-file : goal.returns-in-Some-clause-file
returns-in-Some-clause-file g c = λ told.
    let files : Files = files_below g.D.Disk c.args.self.now in
    let known : overs_in c.args.self.now.slots c.args.place.now ≡ Below =
    ap (λ (os : Overs). os c.args.place.now) (sym c.make_slot.ensures.same) ∙ sym c.take.ensures.over ∙ c.in-Below.is in
    ap Some (c.below.ensures files)
    ∙ whole_below (files c.args.place.now) c.in-Some.len (search rules)
    ∙ ap (seen_as files c.args.place.now) (sym known)

pub returns-in-None-clause-err : goal.returns-in-None-clause-err
returns-in-None-clause-err g c =
    took_none (overs_in c.args.self.now.slots) (overs_in c.make_slot.new.slots) (overs_in c.take.new.slots) c.args.place.now
    c.make_slot.ensures.same c.take.ensures.rest (sym c.take.ensures.over ∙ c.in-Below.is)

pub returns-in-Gone-clause-fault : goal.returns-in-Gone-clause-fault
returns-in-Gone-clause-fault g c = λ failed.
    let files = files_below g.D.Disk c.args.self.now in
    let known : overs_in c.args.self.now.slots c.args.place.now ≡ Gone =
    ap (λ (os : Overs). os c.args.place.now) (sym c.make_slot.ensures.same) ∙ sym c.take.ensures.over ∙ c.in-Gone.is in
    inr (λ told. ap (seen_as files c.args.place.now) known)

pub returns-in-None-clause-fault : goal.returns-in-None-clause-fault
returns-in-None-clause-fault g c = λ failed.
    let files : Files = files_below g.D.Disk c.args.self.now in
    let known : overs_in c.args.self.now.slots c.args.place.now ≡ Below =
    ap (λ (os : Overs). os c.args.place.now) (sym c.make_slot.ensures.same) ∙ sym c.take.ensures.over ∙ c.in-Below.is in
    inr (λ told. ap (seen_as files c.args.place.now) known ∙ none_below (files c.args.place.now) (search rules))
