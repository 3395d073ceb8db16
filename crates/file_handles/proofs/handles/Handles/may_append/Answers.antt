use Rattle.std.proofs.Common.{sym, ap, ◌∙◌}
use Rattle.cache_theory.specs.Command.Command.{Append}
use Rattle.handle_table.specs.Kept.{writing}
use Rattle.file_handles.specs.Kept.{kept}
use Rattle.file_handles.proofs.Setting.ElementChecks.{handed_on}
use Rattle.file_handles.proofs.LiveUses.{live_refuses, writes_at}
use Rattle.file_handles.proofs.Finishing.Writers.{append_ends, append_no_writer, ending}
use Rattle.file_handles.proofs.NoSlots.{check_handed_on, check_passed, grows_otherwise, writer_checks}
use Rattle.file_handles.proofs.handles.Handles.may_append.Goals as goal

pub returns-in_err-used-clause-refused : goal.returns-in_err-used-clause-refused
returns-in_err-used-clause-refused c =
    handed_on c.from_residual.result c.in_err-used.field-0.0 _ c.from_residual.ensures.1
    (λ bytes long. live_refuses (kept c.args.self.now) c.args.slot (Append c.args.slot bytes) c.in_err-used.field-0.0 writing (sym c.writing.ensures.used ∙ c.in_err-used.was)
    (λ is. append_no_writer (kept c.args.self.now) c.args.slot c.requires c.in_err-used.field-0.0 is bytes))

pub returns-in_err-may_grow-clause-refused : goal.returns-in_err-may_grow-clause-refused
returns-in_err-may_grow-clause-refused c =
    let k = kept c.args.self.now in
    handed_on c.from_residual-in_err-may_grow.result c.in_err-may_grow.field-0.0 _ c.from_residual-in_err-may_grow.ensures.1
    (λ bytes long m number proper stand. append_ends k c.args.slot c.requires c.in_ok-used.used c.object_at-object.result.now (writes_at k c.args.slot c.in_ok-used.used (sym c.writing.ensures.used ∙ c.in_ok-used.was)) c.object_at-object.ensures bytes c.args.more long m number proper stand ∙ ap ending (sym c.in_err-may_grow.ensures))

pub returns-clause-passes : goal.returns-clause-passes
returns-clause-passes c bytes long m number proper stand =
    let k = kept c.args.self.now in
    append_ends k c.args.slot c.requires c.in_ok-used.used c.object_at-object.result.now (writes_at k c.args.slot c.in_ok-used.used (sym c.writing.ensures.used ∙ c.in_ok-used.was)) c.object_at-object.ensures bytes c.args.more long m number proper stand ∙ ap ending (sym c.in_ok-may_grow.ensures)

pub returns-in_err-used-clause-no_slot : goal.returns-in_err-used-clause-no_slot
returns-in_err-used-clause-no_slot c =
    check_handed_on (kept c.args.self.now) c.args.slot c.in_err-used.field-0.0 c.writing.result c.from_residual.result c.in_err-used.was c.from_residual.ensures.1 (writer_checks (kept c.args.self.now) c.args.slot c.writing.result c.writing.ensures.used)

pub returns-in_err-may_grow-clause-no_slot : goal.returns-in_err-may_grow-clause-no_slot
returns-in_err-may_grow-clause-no_slot c =
    check_passed (kept c.args.self.now) c.args.slot c.in_ok-used.used c.writing.result c.from_residual-in_err-may_grow.result c.in_ok-used.was (writer_checks (kept c.args.self.now) c.args.slot c.writing.result c.writing.ensures.used)
    (grows_otherwise c.object_at-object.result.now.entry c.args.more c.in_err-may_grow.field-0.0 c.from_residual-in_err-may_grow.result c.in_err-may_grow.ensures c.from_residual-in_err-may_grow.ensures.1)

pub returns-clause-no_slot : goal.returns-clause-no_slot
returns-clause-no_slot c =
    check_passed (kept c.args.self.now) c.args.slot c.in_ok-used.used c.writing.result _ c.in_ok-used.was (writer_checks (kept c.args.self.now) c.args.slot c.writing.result c.writing.ensures.used) (λ same. cc)
