use Rattle.std.proofs.lemmas.Result.{IfOk-weaker}
use Rattle.file_handles.specs.Effects.{HasEffect, IsLearntOf}
use Rattle.file_handles.specs.Finishing.{completed_by, finish_command, finish_fault}
use Rattle.handle_table.specs.Kept.{object_at}
use Rattle.file_handles.specs.Kept.{kept}
use Rattle.handle_table.specs.Refuses.{HasAt}
use Rattle.std.proofs.Common.{◌≡◌, None, rules}
use Rattle.file_handles.proofs.Finishing.Completions.{completion}
use Rattle.file_handles.proofs.Finishing.FinishCarried.{finish_carried}
use Rattle.file_handles.proofs.Setting.ElementChecks.{both_right, the_object}
use Rattle.file_handles.proofs.Places.{filed_somehow}
use Rattle.file_handles.proofs.Finishing.WriterCommands.{finish_effect, finish_makes}
use Rattle.file_handles.proofs.Finishing.Writers.{may_is_draft}
use Rattle.file_handles.proofs.Refused.{refused_answer}
use Rattle.file_handles.proofs.IndexLeft.{completed_left}
use Rattle.file_handles.proofs.NoSlots.{call_handed_on, call_passed}
use Rattle.file_handles.proofs.Accounting.{refused_files}
use Rattle.file_handles.proofs.handles.Handles.finish_by.Goals as goal

pub finish_at-requires-clause-told : goal.finish_at-requires-clause-told
finish_at-requires-clause-told g c told = filed_somehow _ _ _ (c.requires.told told)

pub finish_at-requires-clause-draft : goal.finish_at-requires-clause-draft
finish_at-requires-clause-draft g c = both_right _ _ _ c.in_ok-place.ensures.object

pub returns : goal.returns
returns g c = record {
  finishes = record {
    carried = λ told. let s = g.D.Disk.state c.args.disk.now in
        let t = g.D.Disk.state c.finish_at.new.disk in
        let k = kept c.args.self.now in
        let given = c.args.given in
        let there = the_object _ _ c.in_ok-place.ensures.object in
        finish_carried (completed_by given) (completion given) s t (g.met.D.Disk.sound c.args.disk.now told) k (kept c.finish_at.new.self) (finish_command given c.args.slot) c.args.slot c.requires.slot
        c.in_ok-place.place there.0 there.1.1.0 (may_is_draft there.0.entry given there.1.1.1)
        (finish_makes k c.args.slot given c.requires.parts c.in_ok-place.ensures.passes)
        c.finish_at.result (c.finish_at.ensures.changes told there.0 there.1.0) c.finish_at.ensures.refused;
    effect = let k = kept c.args.self.now in
        let given = c.args.given in
        let there = the_object (object_at k c.in_ok-place.place) (λ x. HasAt k c.args.slot c.in_ok-place.place x × (finish_fault x.entry given ≡ None)) c.in_ok-place.ensures.object in
        IfOk-weaker c.finish_at.result (IsLearntOf (completed_by given) (object_at k c.in_ok-place.place)) (HasEffect k (finish_command given c.args.slot)) (λ e is.
        finish_effect k c.args.slot c.requires.slot c.in_ok-place.place there.0 there.1.1.0 given c.requires.parts c.in_ok-place.ensures.passes e is)
        c.finish_at.ensures.effect;
    plain = search rules;
    handles = record {
      chunks = search rules;
      no_slot = call_passed (kept c.args.self.now) c.args.slot c.in_ok-place.place c.may_finish.result c.finish_at.result c.in_ok-place.was c.may_finish.ensures.no_slot c.finish_at.ensures.refused;
      no_read = search rules;
    };
    files = record {
      unchanged = search rules;
      index = λ told. let there = the_object _ _ c.in_ok-place.ensures.object in
          completed_left (g.D.Disk.state c.args.disk.now) (g.D.Disk.state c.finish_at.new.disk) (kept c.args.self.now) (kept c.finish_at.new.self) c.in_ok-place.place there.0 (completed_by c.args.given) c.finish_at.result
          (g.met.D.Disk.sound c.args.disk.now told) there.1.0 (filed_somehow _ _ _ (c.requires.told told)) (c.finish_at.ensures.changes told);
      disk = search rules;
    };
    calls = search rules;
  };
}

pub returns-in_err-place : goal.returns-in_err-place
returns-in_err-place g c = record {
  finishes = record {
    carried = λ told.
        refused_answer c.from_residual.result (g.D.Disk.state c.args.disk.now) (kept c.args.self.now) (finish_command c.args.given c.args.slot) c.in_err-place.field-0.0 c.from_residual.ensures.1 c.in_err-place.ensures.refused;
    effect = search rules;
    plain = search rules;
    handles = record {
      chunks = search rules;
      no_slot = call_handed_on (kept c.args.self.now) c.args.slot c.in_err-place.field-0.0 c.may_finish.result c.from_residual.result c.in_err-place.was c.from_residual.ensures.1 c.may_finish.ensures.no_slot;
      no_read = search rules;
    };
    files = refused_files g.D.Disk c.in_err-place.field-0.0 c.from_residual.result c.args.disk.now c.from_residual.ensures.1;
    calls = search rules;
  };
}
