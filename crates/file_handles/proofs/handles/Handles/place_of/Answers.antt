use Rattle.std.proofs.Common.{sym, ◌∙◌}
use Rattle.cache_theory.specs.Command.Command.{UseEntry}
use Rattle.handle_table.specs.Kept.{use_at, used}
use Rattle.file_handles.specs.Kept.{kept}
use Rattle.file_handles.proofs.Setting.ElementChecks.{handed_on}
use Rattle.file_handles.proofs.Setting.ElementSlots.{use_found}
use Rattle.file_handles.proofs.LiveUses.{live_refuses, used_at}
use Rattle.file_handles.proofs.Setting.UseCommand.{use_no_slot, use_passes}
use Rattle.file_handles.proofs.NoSlots.{check_handed_on, check_passed, use_checks}
use Rattle.file_handles.proofs.handles.Handles.place_of.Goals as goal

pub returns-in_err-used-clause-refused : goal.returns-in_err-used-clause-refused
returns-in_err-used-clause-refused c =
    let k = kept c.args.self.now in
    let r = c.in_err-used.field-0.0 in
    handed_on c.from_residual.result r _ c.from_residual.ensures.1
    (live_refuses k c.args.slot (UseEntry c.args.slot) r used (sym c.live_use.ensures.used ∙ c.in_err-used.was) (use_no_slot k c.args.slot c.requires r))

pub returns-clause-passes : goal.returns-clause-passes
returns-clause-passes c =
    let k = kept c.args.self.now in
    let u = c.in_ok-used.used in
    use_passes k c.args.slot c.requires u (use_found (use_at k c.args.slot) u (used_at k c.args.slot u (sym c.live_use.ensures.used ∙ c.in_ok-used.was)))

pub returns-in_err-used-clause-no_slot : goal.returns-in_err-used-clause-no_slot
returns-in_err-used-clause-no_slot c =
    check_handed_on (kept c.args.self.now) c.args.slot c.in_err-used.field-0.0 c.live_use.result c.from_residual.result c.in_err-used.was c.from_residual.ensures.1 (use_checks (kept c.args.self.now) c.args.slot c.live_use.result c.live_use.ensures.used)

pub returns-clause-no_slot : goal.returns-clause-no_slot
returns-clause-no_slot c =
    check_passed (kept c.args.self.now) c.args.slot c.in_ok-used.used c.live_use.result _ c.in_ok-used.was (use_checks (kept c.args.self.now) c.args.slot c.live_use.result c.live_use.ensures.used) (λ same. cc)
