use Rattle.std.proofs.Common.{◌≡◌, refl, true, rules}
use Rattle.std.proofs.lemmas.Result.{IfOk-weaker}
use Rattle.cache_theory.specs.Command.Command.{UseEntry}
use Rattle.cache_theory.specs.Step.{used}
use Rattle.file_handles.specs.Changes.{with_version}
use Rattle.file_handles.specs.Effects.{HasEffectAt, IsLearntOf}
use Rattle.handle_table.specs.Held.{is_draft}
use Rattle.handle_table.specs.Kept.{object_at}
use Rattle.file_handles.specs.Kept.{kept}
use Rattle.handle_table.specs.Refuses.{HasAt}
use Rattle.file_handles.proofs.Carried.{change_carried_at}
use Rattle.file_handles.proofs.EffectLaws.{change_effect_at}
use Rattle.file_handles.proofs.Setting.ElementChecks.{if_object, of_any, the_object}
use Rattle.file_handles.proofs.Setting.ElementCommands.{IsFinished, writes_finished}
use Rattle.file_handles.proofs.IndexLeft.{change_left}
use Rattle.file_handles.proofs.Places.{filed_somehow}
use Rattle.file_handles.proofs.Refused.{refused_answer}
use Rattle.file_handles.proofs.Setting.UseCommand.{use_makes}
use Rattle.file_handles.proofs.Where.{at_moment}
use Rattle.file_handles.proofs.UnsyncedLaws.{change_unsynced}
use Rattle.file_handles.proofs.NoSlots.{call_handed_on, call_passed}
use Rattle.file_handles.proofs.handles.Handles.use_entry.Goals as goal

pub returns-in_err-place-clause-carried : goal.returns-in_err-place-clause-carried
returns-in_err-place-clause-carried g c told =
    at_moment (refused_answer c.from_residual.result (g.D.Disk.state c.args.disk.now) (kept c.args.self.now) (UseEntry c.args.slot)
    c.in_err-place.field-0.0 c.from_residual.ensures.1 c.in_err-place.ensures.refused)

pub change_at-requires-clause-told : goal.change_at-requires-clause-told
change_at-requires-clause-told g c told = filed_somehow _ _ _ (c.requires.told told)

pub returns-clause-carried : goal.returns-clause-carried
returns-clause-carried g c told =
    let s = g.D.Disk.state c.args.disk.now in
    let t = g.D.Disk.state c.change_at.new.disk in
    let k = kept c.args.self.now in
    let p = c.in_ok-place.place in
    let now = c.args.now in
    let there = the_object (object_at k p) (HasAt k c.args.slot p) c.in_ok-place.ensures.object in
    let quiet = if_object (object_at k p) there.0 (λ z. is_draft z.entry ≡ true → t ≡ s) there.1.0 (c.change_at.ensures.quiet told) in
    change_carried_at now s t (g.met.D.Disk.sound c.args.disk.now told) k (kept c.change_at.new.self) (UseEntry c.args.slot) c.args.slot c.requires.slot p there.0 there.1.1
    (with_version (used now)) IsFinished (use_makes now c.ranges.now.fits k c.args.slot c.in_ok-place.ensures.passes) c.change_at.result
    (c.change_at.ensures.changes told there.0 there.1.0) (writes_finished s t there.0 quiet) c.change_at.ensures.refused

pub returns-clause-effect : goal.returns-clause-effect
returns-clause-effect g c =
    let k = kept c.args.self.now in
    let p = c.in_ok-place.place in
    let now = c.args.now in
    let there = the_object (object_at k p) (HasAt k c.args.slot p) c.in_ok-place.ensures.object in
    IfOk-weaker c.change_at.result (IsLearntOf (with_version (used now)) (object_at k p)) (HasEffectAt now k (UseEntry c.args.slot)) (λ e is.
    change_effect_at now k (UseEntry c.args.slot) c.args.slot c.requires.slot p there.0 there.1.1 (with_version (used now)) IsFinished
    (use_makes now c.ranges.now.fits k c.args.slot c.in_ok-place.ensures.passes) e (λ m. refl) (λ m number stand. refl) is)
    c.change_at.ensures.effect

pub returns-clause-files : goal.returns-clause-files
returns-clause-files g c = record {
  unchanged = search rules;
  index = λ told. let there = the_object _ _ c.in_ok-place.ensures.object in
      change_left (g.D.Disk.state c.args.disk.now) (g.D.Disk.state c.change_at.new.disk) (kept c.args.self.now) (kept c.change_at.new.self) c.in_ok-place.place there.0 (_) c.change_at.result
      (g.met.D.Disk.sound c.args.disk.now told) there.1.0 (filed_somehow _ _ _ (c.requires.told told)) (c.change_at.ensures.changes told);
  disk = search rules;
}

pub returns-clause-unsynced : goal.returns-clause-unsynced
returns-clause-unsynced g c told =
    let there = the_object _ _ c.in_ok-place.ensures.object in
    change_unsynced (g.D.Disk.state c.args.disk.now) (g.D.Disk.state c.change_at.new.disk) (kept c.args.self.now) (kept c.change_at.new.self) c.in_ok-place.place there.0 (_) c.change_at.result
    there.1.0 (filed_somehow _ _ _ (c.requires.told told)) (c.change_at.ensures.changes told)

pub change_at-requires-clause-settable : goal.change_at-requires-clause-settable
change_at-requires-clause-settable g c = of_any _

pub returns-in_err-place-clause-handles : goal.returns-in_err-place-clause-handles
returns-in_err-place-clause-handles g c = record {
  chunks = search rules;
  no_slot = call_handed_on (kept c.args.self.now) c.args.slot c.in_err-place.field-0.0 c.place_of.result c.from_residual.result c.in_err-place.was c.from_residual.ensures.1 c.place_of.ensures.no_slot;
  no_read = search rules;
}

pub returns-clause-handles : goal.returns-clause-handles
returns-clause-handles g c = record {
  chunks = search rules;
  no_slot = call_passed (kept c.args.self.now) c.args.slot c.in_ok-place.place c.place_of.result c.change_at.result c.in_ok-place.was c.place_of.ensures.no_slot c.change_at.ensures.refused;
  no_read = search rules;
}
