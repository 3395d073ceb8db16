use Rattle.std.proofs.Common.{sym, ◌∙◌}
use Rattle.file_handles.specs.Finishing.{finish_command}
use Rattle.handle_table.specs.Kept.{writing}
use Rattle.file_handles.specs.Kept.{kept}
use Rattle.file_handles.proofs.Setting.ElementChecks.{handed_on}
use Rattle.file_handles.proofs.LiveUses.{live_refuses, writes_at}
use Rattle.file_handles.proofs.Finishing.Writers.{finish_ends, finish_no_writer}
use Rattle.file_handles.proofs.NoSlots.{check_handed_on, writer_checks}
use Rattle.file_handles.proofs.handles.Handles.may_finish.Goals as goal

pub returns-in_err-used-clause-refused : goal.returns-in_err-used-clause-refused
returns-in_err-used-clause-refused c =
    handed_on c.from_residual.result c.in_err-used.field-0.0 _ c.from_residual.ensures.1
    (live_refuses (kept c.args.self.now) c.args.slot (finish_command c.args.given.now c.args.slot) c.in_err-used.field-0.0 writing (sym c.writing.ensures.used ∙ c.in_err-used.was)
    (λ is. finish_no_writer (kept c.args.self.now) c.args.slot c.requires c.in_err-used.field-0.0 is c.args.given.now))

pub returns-in_err-used-clause-no_slot : goal.returns-in_err-used-clause-no_slot
returns-in_err-used-clause-no_slot c =
    check_handed_on (kept c.args.self.now) c.args.slot c.in_err-used.field-0.0 c.writing.result c.from_residual.result c.in_err-used.was c.from_residual.ensures.1 (writer_checks (kept c.args.self.now) c.args.slot c.writing.result c.writing.ensures.used)

pub returns-in-Some-clause-refused : goal.returns-in-Some-clause-refused
returns-in-Some-clause-refused c m number proper stand =
    finish_ends (kept c.args.self.now) c.args.slot c.requires c.in_ok-used.used c.object_at.result.now (writes_at (kept c.args.self.now) c.args.slot c.in_ok-used.used (sym c.writing.ensures.used ∙ c.in_ok-used.was)) c.object_at.ensures
    c.args.given.now m number proper stand
    ∙ sym c.finish_fault.ensures ∙ c.in-Some.is

pub returns-in-None-clause-passes : goal.returns-in-None-clause-passes
returns-in-None-clause-passes c m number proper stand =
    finish_ends (kept c.args.self.now) c.args.slot c.requires c.in_ok-used.used c.object_at.result.now (writes_at (kept c.args.self.now) c.args.slot c.in_ok-used.used (sym c.writing.ensures.used ∙ c.in_ok-used.was)) c.object_at.ensures
    c.args.given.now m number proper stand
    ∙ sym c.finish_fault.ensures ∙ c.in-None.is
