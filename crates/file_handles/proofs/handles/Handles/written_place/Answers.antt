use Rattle.std.proofs.Common.{sym, ◌∙◌}
use Rattle.handle_table.specs.Kept.{writing}
use Rattle.file_handles.specs.Kept.{kept}
use Rattle.file_handles.specs.Setting.{pin_command}
use Rattle.file_handles.proofs.Setting.ElementChecks.{handed_on}
use Rattle.file_handles.proofs.LiveUses.{live_refuses, writes_at}
use Rattle.file_handles.proofs.Setting.PinCommand.{pin_no_writer, pin_passes}
use Rattle.file_handles.proofs.NoSlots.{check_handed_on, check_passed, writer_checks}
use Rattle.file_handles.proofs.handles.Handles.written_place.Goals as goal

pub returns-in_err-used-clause-refused : goal.returns-in_err-used-clause-refused
returns-in_err-used-clause-refused c =
    let k = kept c.args.self.now in
    let r = c.in_err-used.field-0.0 in
    handed_on c.from_residual.result r _ c.from_residual.ensures.1
    (λ pinned. live_refuses k c.args.slot (pin_command pinned c.args.slot) r writing (sym c.writing.ensures.used ∙ c.in_err-used.was)
    (λ is. pin_no_writer k c.args.slot c.requires r is pinned))

pub returns-clause-passes : goal.returns-clause-passes
returns-clause-passes c =
    let k = kept c.args.self.now in
    let u = c.in_ok-used.used in
    pin_passes k c.args.slot c.requires u (writes_at k c.args.slot u (sym c.writing.ensures.used ∙ c.in_ok-used.was)) c.in_ok-used.ensures.there

pub returns-in_err-used-clause-no_slot : goal.returns-in_err-used-clause-no_slot
returns-in_err-used-clause-no_slot c =
    check_handed_on (kept c.args.self.now) c.args.slot c.in_err-used.field-0.0 c.writing.result c.from_residual.result c.in_err-used.was c.from_residual.ensures.1 (writer_checks (kept c.args.self.now) c.args.slot c.writing.result c.writing.ensures.used)

pub returns-clause-no_slot : goal.returns-clause-no_slot
returns-clause-no_slot c =
    check_passed (kept c.args.self.now) c.args.slot c.in_ok-used.used c.writing.result _ c.in_ok-used.was (writer_checks (kept c.args.self.now) c.args.slot c.writing.result c.writing.ensures.used) (λ same. cc)
