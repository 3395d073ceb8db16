use Rattle.std.proofs.Common.{◌≡◌, length, sym, ◌∙◌}
use Rattle.cache_theory.specs.declared.refusal.Refusal.TheVariants.{NoSlot}
use Rattle.cache_theory.specs.Command.Command.{PutAlt}
use Rattle.handle_table.specs.Kept.{writing}
use Rattle.file_handles.specs.Kept.{kept}
use Rattle.file_handles.proofs.PuttingAlt.AltChecks.{put_ends, put_no_writer}
use Rattle.file_handles.proofs.Setting.ElementChecks.{handed_on}
use Rattle.file_handles.proofs.LiveUses.{live_refuses, writes_at}
use Rattle.file_handles.proofs.NoSlots.{check_handed_on, check_passed, puts_otherwise, writer_checks}
use Rattle.file_handles.proofs.handles.Handles.may_put_alt.Goals as goal

pub returns-in_err-used-clause-refused : goal.returns-in_err-used-clause-refused
returns-in_err-used-clause-refused c =
    handed_on c.from_residual.result c.in_err-used.field-0.0 _ c.from_residual.ensures.1
    (live_refuses (kept c.args.self.now) c.args.slot (PutAlt c.args.slot c.args.kind.now c.args.alt.now) c.in_err-used.field-0.0 writing (sym c.writing.ensures.used ∙ c.in_err-used.was)
    (put_no_writer c.args.kind.now c.args.alt.now (kept c.args.self.now) c.args.slot c.requires c.in_err-used.field-0.0))

pub returns-in-Some-clause-refused : goal.returns-in-Some-clause-refused
returns-in-Some-clause-refused c m number proper stand =
    put_ends c.args.kind.now c.args.alt.now (kept c.args.self.now) c.args.slot c.requires c.in_ok-used.used c.object_at-object.result.now
    (writes_at (kept c.args.self.now) c.args.slot c.in_ok-used.used (sym c.writing.ensures.used ∙ c.in_ok-used.was)) c.object_at-object.ensures
    m number proper stand ∙ sym c.put_fault.ensures ∙ c.in-Some.is

pub returns-in-None-clause-passes : goal.returns-in-None-clause-passes
returns-in-None-clause-passes c m number proper stand =
    put_ends c.args.kind.now c.args.alt.now (kept c.args.self.now) c.args.slot c.requires c.in_ok-used.used c.object_at-object.result.now
    (writes_at (kept c.args.self.now) c.args.slot c.in_ok-used.used (sym c.writing.ensures.used ∙ c.in_ok-used.was)) c.object_at-object.ensures
    m number proper stand ∙ sym c.put_fault.ensures ∙ c.in-None.is

pub returns-in_err-used-clause-no_slot : goal.returns-in_err-used-clause-no_slot
returns-in_err-used-clause-no_slot c =
    check_handed_on (kept c.args.self.now) c.args.slot c.in_err-used.field-0.0 c.writing.result c.from_residual.result c.in_err-used.was c.from_residual.ensures.1 (writer_checks (kept c.args.self.now) c.args.slot c.writing.result c.writing.ensures.used)

pub returns-in-Some-clause-no_slot : goal.returns-in-Some-clause-no_slot
returns-in-Some-clause-no_slot c =
    check_passed (kept c.args.self.now) c.args.slot c.in_ok-used.used c.writing.result _ c.in_ok-used.was (writer_checks (kept c.args.self.now) c.args.slot c.writing.result c.writing.ensures.used)
    (λ same. puts_otherwise c.object_at-object.result.now.entry c.args.kind.now (length c.args.alt.now) c.in-Some.refusal (sym c.put_fault.ensures ∙ c.in-Some.is) (let one : c.in-Some.refusal ≡ NoSlot = cc in one))

pub returns-in-None-clause-no_slot : goal.returns-in-None-clause-no_slot
returns-in-None-clause-no_slot c =
    check_passed (kept c.args.self.now) c.args.slot c.in_ok-used.used c.writing.result _ c.in_ok-used.was (writer_checks (kept c.args.self.now) c.args.slot c.writing.result c.writing.ensures.used) (λ same. cc)
