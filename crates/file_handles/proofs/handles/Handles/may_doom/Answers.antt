use Rattle.std.proofs.Common.{rules, ◌≡◌, ◌∙◌, sym, ap, true, false, Some, is_some}
use Rattle.cache_theory.specs.declared.refusal.Refusal.TheVariants as refused
use Rattle.entry_key.specs.Writing.{may_write}
use Rattle.file_handles.specs.Kept.{kept}
use Rattle.handle_table.specs.Finding.{used_place}
use Rattle.file_handles.proofs.Dooming.DoomedChecks.{doom_absent, doom_bad_key, doom_read, doom_used, refused_on}
use Rattle.file_handles.proofs.Dooming.Unmoved.{is_used}
use Rattle.file_handles.proofs.handles.Handles.may_doom.Goals as goal

pub returns-then-not-may_write-clause-refuses : goal.returns-then-not-may_write-clause-refuses
returns-then-not-may_write-clause-refuses g c = λ refusal same tells m stand.
    let bad : may_write c.args.key.now ≡ false = search rules in
    let e : refused.BadKey ≡ refusal = cc in
    doom_bad_key (g.D.Disk.state c.args.disk.now) (kept c.args.self.now) c.args.key.now bad m stand ∙ ap Some e

pub returns-then-is_some-clause-passes : goal.returns-then-is_some-clause-passes
returns-then-is_some-clause-passes g c = λ tells.
    let good : may_write c.args.key.now ≡ true = sym c.may_write.ensures ∙ c.if-not-may_write.false in
    let used : is_some (used_place (kept c.args.self.now) c.name_of-name.result c.args.key.now) ≡ true = ap is_some (sym c.used_by.ensures.found) ∙ sym c.is_some.ensures ∙ c.if-is_some.true in
    doom_used (g.D.Disk.state c.args.disk.now) (kept c.args.self.now) c.args.key.now c.name_of-name.result c.name_of-name.ensures good used

pub returns-in_err-read_metadata-clause-refuses : goal.returns-in_err-read_metadata-clause-refuses
returns-in_err-read_metadata-clause-refuses g c =
    let good : may_write c.args.key.now ≡ true = sym c.may_write.ensures ∙ c.if-not-may_write.false in
    let unused : is_some (used_place (kept c.args.self.now) c.name_of-name.result c.args.key.now) ≡ false = ap is_some (sym c.used_by.ensures.found) ∙ sym c.is_some.ensures ∙ c.if-is_some.false in
    refused_on c.from_residual.result c.in_err-read_metadata.field-0.0 _ c.from_residual.ensures.1
    (λ refusal same tells m stand.
    let absent = c.in_err-read_metadata.ensures.refused refusal same in
    doom_absent (g.D.Disk.state c.args.disk.now) (kept c.args.self.now) c.args.key.now c.name_of-name.result c.name_of-name.ensures good unused (absent.1 tells) m stand ∙ ap Some (sym absent.0))

pub returns-clause-passes : goal.returns-clause-passes
returns-clause-passes g c = λ tells.
    let good : may_write c.args.key.now ≡ true = sym c.may_write.ensures ∙ c.if-not-may_write.false in
    doom_read (g.D.Disk.state c.args.disk.now) (kept c.args.self.now) c.args.key.now c.name_of-name.result c.name_of-name.ensures good c.in_ok-read_metadata.field-0 (c.in_ok-read_metadata.ensures.found tells)

pub returns-in_err-read_metadata-clause-in_use : goal.returns-in_err-read_metadata-clause-in_use
returns-in_err-read_metadata-clause-in_use g c place used =
    absurd (is_used (kept c.args.self.now) c.args.key.now c.name_of-name.result c.name_of-name.ensures place used (sym (ap is_some (sym c.used_by.ensures.found) ∙ sym c.is_some.ensures ∙ c.if-is_some.false)))

pub returns-clause-in_use : goal.returns-clause-in_use
returns-clause-in_use g c place used =
    absurd (is_used (kept c.args.self.now) c.args.key.now c.name_of-name.result c.name_of-name.ensures place used (sym (ap is_some (sym c.used_by.ensures.found) ∙ sym c.is_some.ensures ∙ c.if-is_some.false)))
