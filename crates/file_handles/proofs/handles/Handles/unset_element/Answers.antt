use Rattle.std.proofs.Common.{Ok, refl, sym, ap, subst, ◌∙◌, rules}
use Rattle.cache_theory.specs.Command.Command.{UnsetElement}
use Rattle.entry_parts.specs.Elements.{element}
use Rattle.entry_parts.specs.Setting.{without_element}
use Rattle.file_handles.specs.Answers.{done_or}
use Rattle.file_handles.specs.Cache.{cache_at}
use Rattle.file_handles.specs.Carries.{CarriesOut}
use Rattle.handle_table.specs.Kept.{object_at}
use Rattle.file_handles.specs.Kept.{kept}
use Rattle.handle_table.specs.Refuses.{HasAt}
use Rattle.file_handles.proofs.EffectLaws.{change_effect, unsets_rewrite}
use Rattle.file_handles.proofs.Setting.EntryChanged.{with_elements}
use Rattle.file_handles.proofs.Setting.ElementChecks.{at_object, if_object, of_any, some_object}
use Rattle.file_handles.proofs.Setting.ElementCommands.{IsFinished, fault_reply, unset_leaves, unset_makes}
use Rattle.file_handles.proofs.Setting.ElementEntries.{room_without}
use Rattle.file_handles.proofs.Setting.ElementReads.{mapped_none, mapped_some, unset_none_leaves}
use Rattle.file_handles.proofs.Places.{filed_somehow}
use Rattle.file_handles.proofs.Refused.{refused_answer_or_none}
use Rattle.file_handles.proofs.IndexLeft.{change_left}
use Rattle.file_handles.proofs.UnsyncedLaws.{change_unsynced}
use Rattle.file_handles.proofs.NoSlots.{call_handed_on, call_passed, never_refused}
use Rattle.file_handles.proofs.handles.Handles.unset_element.Goals as goal

pub returns-then-is_none-clause-carried : goal.returns-then-is_none-clause-carried
returns-then-is_none-clause-carried g c told =
    let k = kept c.args.self.now in
    let name = c.args.name.now in
    let x = c.object_at.result.now in
    let has = at_object _ x (HasAt k c.args.slot c.in_ok-place.place) c.object_at.ensures c.in_ok-place.ensures.object in
    unset_none_leaves (g.D.Disk.state c.args.disk.now) k c.args.slot c.requires.slot c.in_ok-place.place x has name (c.in_ok-place.ensures.passes name)
    (mapped_none _ c.get.result _ (c.get.ensures ∙ ap (element name) c.elements.ensures) c.if-is_none.ensures)

pub change_at-requires-clause-room : goal.change_at-requires-clause-room
change_at-requires-clause-room g c =
    let o = object_at (kept c.args.self.now) c.in_ok-place.place in
    let x = c.object_at.result.now in
    some_object o x _ c.object_at.ensures (if_object o x _ c.object_at.ensures (room_without o c.args.name.now))

pub change_at-requires-clause-told : goal.change_at-requires-clause-told
change_at-requires-clause-told g c told = filed_somehow _ _ _ (c.requires.told told)

pub returns-in_err-effect-clause-carried : goal.returns-in_err-effect-clause-carried
returns-in_err-effect-clause-carried g c told =
    let s = g.D.Disk.state c.args.disk.now in
    let t = g.D.Disk.state c.change_at.new.disk in
    let k = kept c.args.self.now in
    let after = kept c.change_at.new.self in
    let name = c.args.name.now in
    let x = c.object_at.result.now in
    let has = at_object _ x (HasAt k c.args.slot c.in_ok-place.place) c.object_at.ensures c.in_ok-place.ensures.object in
    let some = mapped_some _ c.get.result _ (c.get.ensures ∙ ap (element name) c.elements.ensures) c.if-is_none.ensures in
    subst (λ reply. CarriesOut (UnsetElement c.args.slot name) reply (cache_at k s) (cache_at after t))
    (ap done_or c.in_err-effect.was ∙ sym (fault_reply c.from_residual-in_err-effect.result c.in_err-effect.field-0.0 c.from_residual-in_err-effect.ensures.1))
    (unset_leaves s t (g.met.D.Disk.sound c.args.disk.now told) k after c.args.slot c.requires.slot c.in_ok-place.place x has name c.change_at.result (c.change_at.ensures.quiet told) c.change_at.ensures.refused
    some.0 some.1 (c.in_ok-place.ensures.passes name) (c.change_at.ensures.changes told))

pub returns-clause-carried : goal.returns-clause-carried
returns-clause-carried g c told =
    let k = kept c.args.self.now in
    let name = c.args.name.now in
    let x = c.object_at.result.now in
    let has = at_object _ x (HasAt k c.args.slot c.in_ok-place.place) c.object_at.ensures c.in_ok-place.ensures.object in
    let some = mapped_some _ c.get.result _ (c.get.ensures ∙ ap (element name) c.elements.ensures) c.if-is_none.ensures in
    unset_leaves _ _ (g.met.D.Disk.sound c.args.disk.now told) k _ c.args.slot c.requires.slot c.in_ok-place.place x has name (Ok c.in_ok-effect.effect) (c.change_at.ensures.quiet told) c.in_ok-effect.ensures.refused
    some.0 some.1 (c.in_ok-place.ensures.passes name) (c.in_ok-effect.ensures.changes told)

pub returns-clause-effect : goal.returns-clause-effect
returns-clause-effect g c =
    let k = kept c.args.self.now in
    let name = c.args.name.now in
    let x = c.object_at.result.now in
    let has = at_object _ x (HasAt k c.args.slot c.in_ok-place.place) c.object_at.ensures c.in_ok-place.ensures.object in
    let some = mapped_some _ c.get.result _ (c.get.ensures ∙ ap (element name) c.elements.ensures) c.if-is_none.ensures in
    change_effect k (UnsetElement c.args.slot name) c.args.slot c.requires.slot c.in_ok-place.place x has (with_elements (without_element name)) IsFinished
    (unset_makes k c.args.slot c.requires.slot c.in_ok-place.place x has name some.0 some.1 (c.in_ok-place.ensures.passes name)) c.in_ok-effect.effect (λ m. refl)
    (unsets_rewrite k c.args.slot c.requires.slot c.in_ok-place.place x has name some.0 some.1) c.in_ok-effect.ensures.effect

pub returns-in_err-place-clause-carried : goal.returns-in_err-place-clause-carried
returns-in_err-place-clause-carried g c = λ told.
    refused_answer_or_none c.from_residual.result (g.D.Disk.state c.args.disk.now) (kept c.args.self.now) (UnsetElement c.args.slot c.args.name.now) c.in_err-place.field-0.0 c.from_residual.ensures.1 (c.in_err-place.ensures.refused c.args.name.now)

pub returns-in_err-effect-clause-files : goal.returns-in_err-effect-clause-files
returns-in_err-effect-clause-files g c = record {
  unchanged = search rules;
  index = λ told. change_left (g.D.Disk.state c.args.disk.now) (g.D.Disk.state c.change_at.new.disk) (kept c.args.self.now) (kept c.change_at.new.self) c.in_ok-place.place c.object_at.result.now (_) c.change_at.result
      (g.met.D.Disk.sound c.args.disk.now told) c.object_at.ensures (filed_somehow _ _ _ (c.requires.told told)) (c.change_at.ensures.changes told);
  disk = search rules;
}

pub returns-clause-files : goal.returns-clause-files
returns-clause-files g c = record {
  unchanged = search rules;
  index = λ told. change_left (g.D.Disk.state c.args.disk.now) (g.D.Disk.state c.change_at.new.disk) (kept c.args.self.now) (kept c.change_at.new.self) c.in_ok-place.place c.object_at.result.now (_) c.change_at.result
      (g.met.D.Disk.sound c.args.disk.now told) c.object_at.ensures (filed_somehow _ _ _ (c.requires.told told)) (c.change_at.ensures.changes told);
  disk = search rules;
}

pub returns-in_err-effect-clause-unsynced : goal.returns-in_err-effect-clause-unsynced
returns-in_err-effect-clause-unsynced g c told =
    change_unsynced (g.D.Disk.state c.args.disk.now) (g.D.Disk.state c.change_at.new.disk) (kept c.args.self.now) (kept c.change_at.new.self) c.in_ok-place.place c.object_at.result.now (_) c.change_at.result
    c.object_at.ensures (filed_somehow _ _ _ (c.requires.told told)) (c.change_at.ensures.changes told)

pub returns-clause-unsynced : goal.returns-clause-unsynced
returns-clause-unsynced g c told =
    change_unsynced (g.D.Disk.state c.args.disk.now) (g.D.Disk.state c.change_at.new.disk) (kept c.args.self.now) (kept c.change_at.new.self) c.in_ok-place.place c.object_at.result.now (_) c.change_at.result
    c.object_at.ensures (filed_somehow _ _ _ (c.requires.told told)) (c.change_at.ensures.changes told)

pub change_at-requires-clause-settable : goal.change_at-requires-clause-settable
change_at-requires-clause-settable g c = of_any _

pub returns-in_err-place-clause-handles : goal.returns-in_err-place-clause-handles
returns-in_err-place-clause-handles g c = record {
  chunks = search rules;
  no_slot = call_handed_on (kept c.args.self.now) c.args.slot c.in_err-place.field-0.0 c.may_change.result c.from_residual.result c.in_err-place.was c.from_residual.ensures.1 c.may_change.ensures.no_slot;
  no_read = search rules;
}

pub returns-then-is_none-clause-handles : goal.returns-then-is_none-clause-handles
returns-then-is_none-clause-handles g c = record {
  chunks = search rules;
  no_slot = call_passed (kept c.args.self.now) c.args.slot c.in_ok-place.place c.may_change.result _ c.in_ok-place.was c.may_change.ensures.no_slot tt;
  no_read = search rules;
}

pub returns-in_err-effect-clause-handles : goal.returns-in_err-effect-clause-handles
returns-in_err-effect-clause-handles g c = record {
  chunks = search rules;
  no_slot = call_passed (kept c.args.self.now) c.args.slot c.in_ok-place.place c.may_change.result c.from_residual-in_err-effect.result c.in_ok-place.was c.may_change.ensures.no_slot
      (never_refused c.in_err-effect.field-0.0 c.from_residual-in_err-effect.result c.from_residual-in_err-effect.ensures.1 c.in_err-effect.ensures.refused);
  no_read = search rules;
}

pub returns-clause-handles : goal.returns-clause-handles
returns-clause-handles g c = record {
  chunks = search rules;
  no_slot = call_passed (kept c.args.self.now) c.args.slot c.in_ok-place.place c.may_change.result _ c.in_ok-place.was c.may_change.ensures.no_slot tt;
  no_read = search rules;
}
