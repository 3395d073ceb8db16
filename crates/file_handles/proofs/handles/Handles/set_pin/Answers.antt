use Rattle.std.proofs.Common.{◌≡◌, true, rules}
use Rattle.std.proofs.lemmas.Result.{IfOk-weaker}
use Rattle.cache_theory.specs.Step.{with_pin}
use Rattle.file_handles.specs.Changes.{with_version}
use Rattle.file_handles.specs.Effects.{HasEffect, IsLearntOf}
use Rattle.handle_table.specs.Held.{is_draft}
use Rattle.handle_table.specs.Kept.{object_at}
use Rattle.file_handles.specs.Kept.{kept}
use Rattle.handle_table.specs.Refuses.{HasAt}
use Rattle.file_handles.specs.Setting.{pin_command}
use Rattle.file_handles.proofs.Carried.{change_carried}
use Rattle.file_handles.proofs.EffectLaws.{change_effect}
use Rattle.file_handles.proofs.Setting.ElementChecks.{if_object, of_any, the_object}
use Rattle.file_handles.proofs.Setting.ElementCommands.{IsFinished, writes_finished}
use Rattle.file_handles.proofs.IndexLeft.{change_left}
use Rattle.file_handles.proofs.Places.{filed_somehow}
use Rattle.file_handles.proofs.Refused.{refused_answer}
use Rattle.file_handles.proofs.Setting.PinCommand.{pin_learnt, pin_makes, pin_rewrites}
use Rattle.file_handles.proofs.UnsyncedLaws.{change_unsynced}
use Rattle.file_handles.proofs.NoSlots.{call_handed_on, call_passed}
use Rattle.file_handles.proofs.handles.Handles.set_pin.Goals as goal

pub returns-in_err-place-clause-carried : goal.returns-in_err-place-clause-carried
returns-in_err-place-clause-carried g c told =
    refused_answer c.from_residual.result (g.D.Disk.state c.args.disk.now) (kept c.args.self.now) (pin_command c.args.pinned c.args.slot)
    c.in_err-place.field-0.0 c.from_residual.ensures.1 (c.in_err-place.ensures.refused c.args.pinned)

pub change_at-requires-clause-told : goal.change_at-requires-clause-told
change_at-requires-clause-told g c told = filed_somehow _ _ _ (c.requires.told told)

pub change_at-requires-clause-settable : goal.change_at-requires-clause-settable
change_at-requires-clause-settable g c = of_any _

pub returns-clause-carried : goal.returns-clause-carried
returns-clause-carried g c told =
    let s = g.D.Disk.state c.args.disk.now in
    let t = g.D.Disk.state c.change_at.new.disk in
    let k = kept c.args.self.now in
    let p = c.in_ok-place.place in
    let pinned = c.args.pinned in
    let there = the_object (object_at k p) (HasAt k c.args.slot p) c.in_ok-place.ensures.object in
    let quiet = if_object (object_at k p) there.0 (λ z. is_draft z.entry ≡ true → t ≡ s) there.1.0 (c.change_at.ensures.quiet told) in
    change_carried s t (g.met.D.Disk.sound c.args.disk.now told) k (kept c.change_at.new.self) (pin_command pinned c.args.slot) c.args.slot c.requires.slot p there.0 there.1.1
    (with_version (with_pin pinned)) IsFinished (pin_makes k c.args.slot pinned (c.in_ok-place.ensures.passes pinned)) c.change_at.result
    (c.change_at.ensures.changes told there.0 there.1.0) (writes_finished s t there.0 quiet) c.change_at.ensures.refused

pub returns-clause-effect : goal.returns-clause-effect
returns-clause-effect g c =
    let k = kept c.args.self.now in
    let p = c.in_ok-place.place in
    let pinned = c.args.pinned in
    let slot = c.args.slot in
    let there = the_object (object_at k p) (HasAt k slot p) c.in_ok-place.ensures.object in
    IfOk-weaker c.change_at.result (IsLearntOf (with_version (with_pin pinned)) (object_at k p)) (HasEffect k (pin_command pinned slot)) (λ e is.
    change_effect k (pin_command pinned slot) slot c.requires.slot p there.0 there.1.1 (with_version (with_pin pinned)) IsFinished
    (pin_makes k slot pinned (c.in_ok-place.ensures.passes pinned)) e (λ m. pin_learnt m slot pinned) (λ m number stand. pin_rewrites m slot pinned) is)
    c.change_at.ensures.effect

pub returns-clause-files : goal.returns-clause-files
returns-clause-files g c = record {
  unchanged = search rules;
  index = λ told. let there = the_object _ _ c.in_ok-place.ensures.object in
      change_left (g.D.Disk.state c.args.disk.now) (g.D.Disk.state c.change_at.new.disk) (kept c.args.self.now) (kept c.change_at.new.self) c.in_ok-place.place there.0 (_) c.change_at.result
      (g.met.D.Disk.sound c.args.disk.now told) there.1.0 (filed_somehow _ _ _ (c.requires.told told)) (c.change_at.ensures.changes told);
  disk = search rules;
}

pub returns-clause-unsynced : goal.returns-clause-unsynced
returns-clause-unsynced g c told =
    let there = the_object _ _ c.in_ok-place.ensures.object in
    change_unsynced (g.D.Disk.state c.args.disk.now) (g.D.Disk.state c.change_at.new.disk) (kept c.args.self.now) (kept c.change_at.new.self) c.in_ok-place.place there.0 (_) c.change_at.result
    there.1.0 (filed_somehow _ _ _ (c.requires.told told)) (c.change_at.ensures.changes told)

pub returns-in_err-place-clause-handles : goal.returns-in_err-place-clause-handles
returns-in_err-place-clause-handles g c = record {
  chunks = search rules;
  no_slot = call_handed_on (kept c.args.self.now) c.args.slot c.in_err-place.field-0.0 c.written_place.result c.from_residual.result c.in_err-place.was c.from_residual.ensures.1 c.written_place.ensures.no_slot;
  no_read = search rules;
}

pub returns-clause-handles : goal.returns-clause-handles
returns-clause-handles g c = record {
  chunks = search rules;
  no_slot = call_passed (kept c.args.self.now) c.args.slot c.in_ok-place.place c.written_place.result c.change_at.result c.in_ok-place.was c.written_place.ensures.no_slot c.change_at.ensures.refused;
  no_read = search rules;
}
