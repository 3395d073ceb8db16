use Rattle.std.proofs.Common.{◌≡◌, rules, Option, subst}
use Rattle.std.specs.Prelude.{IfSome}
use Rattle.chunk_store.specs.declared.damage.Damage.{Damage}
use Rattle.disk_theory.specs.State.{State, standing}
use Rattle.disk_theory.specs.declared.place.Place.TheVariants.{Entry}
use Rattle.entry_file.specs.Damages.{first_damage}
use Rattle.entry_file.proofs.LookLaws.{looks_handed}
use Rattle.entry_file.specs.EntryRead.{ReadsAs}
use Rattle.entry_file.specs.Rewriting.{StoresBody}
use Rattle.entry_file.specs.declared.entry_read.EntryRead.{EntryRead}
use Rattle.entry_metadata.specs.Meta.{meta_of}
use Rattle.file_handles.proofs.Finding.FoundNamed.{damaged_found, unfit_found, whole_found}
use Rattle.file_handles.proofs.handles.Handles.find_named.Goals as goal

pub returns-in_default : goal.returns-in_default
returns-in_default g c = record {
  found = λ told.
      unfit_found c.args.name.now.0 (standing (g.D.Disk.state c.args.disk.now) (Entry c.args.name.now)) c.in_ok-meta.field-0 c.in_default.not-Fits
      (c.in_ok-meta.ensures.reads told);
  held = search rules;
  kept = search rules;
  looks = search rules;
}

pub returns-in-None-clause-found : goal.returns-in-None-clause-found
returns-in-None-clause-found g c = λ told.
    let place = Entry c.args.name.now in
    let content = standing (g.D.Disk.state c.args.disk.now) place in
    let m = meta_of c.in-Fits.meta in
    let same = c.in_ok-meta.ensures.looks.state told in
    let P : State → Type 0 = λ s. IfSome (standing s place) (λ d. c.in_ok-check_body.field-0 ≡ first_damage m d) in
    let Q : State → Type 0 = λ s. StoresBody (standing s place) m in
    let R : Option Damage → Type 0 = λ f. IfSome content (λ d. f ≡ first_damage m d) in
    whole_found c.args.name.now.0 content c.in-Fits.meta c.in-Fits.size
    (subst (λ (r : EntryRead). ReadsAs c.args.name.now.0 content r) c.in-Fits.is (c.in_ok-meta.ensures.reads told))
    (subst R c.in-None.is (subst P same (c.in_ok-check_body.ensures.damage told)))
    (subst Q same (c.in_ok-check_body.ensures.stores told c.in-None.is))

pub returns-in-Some-clause-found : goal.returns-in-Some-clause-found
returns-in-Some-clause-found g c = λ told.
    let place = Entry c.args.name.now in
    let content = standing (g.D.Disk.state c.args.disk.now) place in
    let m = meta_of c.in-Fits.meta in
    let P : State → Type 0 = λ s. IfSome (standing s place) (λ d. c.in_ok-check_body.field-0 ≡ first_damage m d) in
    let R : Option Damage → Type 0 = λ f. IfSome content (λ d. f ≡ first_damage m d) in
    damaged_found c.args.name.now.0 content c.in-Fits.meta c.in-Fits.size
    (subst (λ (r : EntryRead). ReadsAs c.args.name.now.0 content r) c.in-Fits.is (c.in_ok-meta.ensures.reads told))
    c.in-Some.field-0
    (subst R c.in-Some.is (subst P (c.in_ok-meta.ensures.looks.state told) (c.in_ok-check_body.ensures.damage told)))

pub returns-in_err-check_body-clause-looks : goal.returns-in_err-check_body-clause-looks
returns-in_err-check_body-clause-looks g c =
    looks_handed g.D.Disk c.from_residual-in_err-check_body.result c.in_err-check_body.field-0.0 c.args.disk.now c.read_meta.new.disk c.check_body.new.disk
    c.from_residual-in_err-check_body.ensures.1 c.in_ok-meta.ensures.looks c.in_err-check_body.ensures.looks
