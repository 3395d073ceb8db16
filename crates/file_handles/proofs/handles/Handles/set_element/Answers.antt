use Rattle.std.proofs.Common.{arith, refl, rules}
use Rattle.std.proofs.lemmas.Result.{IfOk-weaker}
use Rattle.cache_theory.specs.Command.Command.{SetElement}
use Rattle.cache_base.specs.Bytes.{AreBytes}
use Rattle.cache_base.proofs.ByteLaws.{all_below}
use Rattle.cache_theory.specs.Command.Command.{SetElement}
use Rattle.handle_table.specs.Kept.{object_at}
use Rattle.file_handles.specs.Kept.{kept}
use Rattle.entry_parts.specs.Setting.{with_element}
use Rattle.file_handles.specs.Effects.{HasEffect, IsLearntOf}
use Rattle.handle_table.specs.Held.{elements_in}
use Rattle.handle_table.specs.Refuses.{HasAt}
use Rattle.file_handles.specs.Setting.{HasRoom}
use Rattle.file_handles.proofs.EffectLaws.{change_effect}
use Rattle.file_handles.proofs.Setting.EntryChanged.{with_elements}
use Rattle.file_handles.proofs.Setting.ElementChecks.{both_right, the_object}
use Rattle.file_handles.proofs.Setting.ElementCommands.{IsFinished, set_leaves, set_makes}
use Rattle.file_handles.proofs.Places.{filed_somehow}
use Rattle.file_handles.proofs.Refused.{refused_answer}
use Rattle.file_handles.proofs.IndexLeft.{change_left}
use Rattle.file_handles.proofs.UnsyncedLaws.{change_unsynced}
use Rattle.file_handles.proofs.NoSlots.{call_handed_on, call_passed}
use Rattle.file_handles.proofs.handles.Handles.set_element.Goals as goal

pub change_at-requires-clause-told : goal.change_at-requires-clause-told
change_at-requires-clause-told g c told = filed_somehow _ _ _ (c.requires.told told)

pub change_at-requires-clause-room : goal.change_at-requires-clause-room
change_at-requires-clause-room g c = both_right _ _ _ c.in_ok-place.ensures.object

pub returns-clause-carried : goal.returns-clause-carried
returns-clause-carried g c told =
    let s = g.D.Disk.state c.args.disk.now in
    let t = g.D.Disk.state c.change_at.new.disk in
    let k = kept c.args.self.now in
    let name = c.args.name.now in
    let value = c.args.value.now in
    let name_bytes : AreBytes name = all_below 256 name (λ i. omega (arith, c.type_inv.name i)) in
    let value_bytes : AreBytes value = all_below 256 value (λ i. omega (arith, c.type_inv.value i)) in
    let there = the_object (object_at k c.in_ok-place.place) (λ x. HasAt k c.args.slot c.in_ok-place.place x × HasRoom x.entry (with_element name value (elements_in x.entry))) c.in_ok-place.ensures.object in
    set_leaves s t (g.met.D.Disk.sound c.args.disk.now told) k (kept c.change_at.new.self) c.args.slot c.requires.slot c.in_ok-place.place there.0 there.1.1.0 name c.change_at.result
    (c.change_at.ensures.quiet told) c.change_at.ensures.refused
    value name_bytes value_bytes c.in_ok-place.ensures.passes (c.change_at.ensures.changes told)

pub returns-clause-effect : goal.returns-clause-effect
returns-clause-effect g c =
    let k = kept c.args.self.now in
    let name = c.args.name.now in
    let value = c.args.value.now in
    let name_bytes : AreBytes name = all_below 256 name (λ i. omega (arith, c.type_inv.name i)) in
    let value_bytes : AreBytes value = all_below 256 value (λ i. omega (arith, c.type_inv.value i)) in
    let there = the_object (object_at k c.in_ok-place.place) (λ x. HasAt k c.args.slot c.in_ok-place.place x × HasRoom x.entry (with_element name value (elements_in x.entry))) c.in_ok-place.ensures.object in
    IfOk-weaker c.change_at.result (IsLearntOf (with_elements (with_element name value)) (object_at k c.in_ok-place.place)) (HasEffect k (SetElement c.args.slot name value)) (λ e is.
    change_effect k (SetElement c.args.slot name value) c.args.slot c.requires.slot c.in_ok-place.place there.0 there.1.1.0 (with_elements (with_element name value)) IsFinished
    (set_makes k c.args.slot name value name_bytes value_bytes c.in_ok-place.ensures.passes) e (λ m. refl) (λ m number stand. refl) is)
    c.change_at.ensures.effect

pub returns-in_err-place-clause-carried : goal.returns-in_err-place-clause-carried
returns-in_err-place-clause-carried g c = λ told.
    refused_answer c.from_residual.result (g.D.Disk.state c.args.disk.now) (kept c.args.self.now) (SetElement c.args.slot c.args.name.now c.args.value.now) c.in_err-place.field-0.0 c.from_residual.ensures.1 c.in_err-place.ensures.refused

pub returns-clause-files : goal.returns-clause-files
returns-clause-files g c = record {
  unchanged = search rules;
  index = λ told. let there = the_object _ _ c.in_ok-place.ensures.object in
      change_left (g.D.Disk.state c.args.disk.now) (g.D.Disk.state c.change_at.new.disk) (kept c.args.self.now) (kept c.change_at.new.self) c.in_ok-place.place there.0 (_) c.change_at.result
      (g.met.D.Disk.sound c.args.disk.now told) there.1.0 (filed_somehow _ _ _ (c.requires.told told)) (c.change_at.ensures.changes told);
  disk = search rules;
}

pub returns-clause-unsynced : goal.returns-clause-unsynced
returns-clause-unsynced g c told =
    let there = the_object _ _ c.in_ok-place.ensures.object in
    change_unsynced (g.D.Disk.state c.args.disk.now) (g.D.Disk.state c.change_at.new.disk) (kept c.args.self.now) (kept c.change_at.new.self) c.in_ok-place.place there.0 (_) c.change_at.result
    there.1.0 (filed_somehow _ _ _ (c.requires.told told)) (c.change_at.ensures.changes told)

pub returns-in_err-place-clause-handles : goal.returns-in_err-place-clause-handles
returns-in_err-place-clause-handles g c = record {
  chunks = search rules;
  no_slot = call_handed_on (kept c.args.self.now) c.args.slot c.in_err-place.field-0.0 c.may_set.result c.from_residual.result c.in_err-place.was c.from_residual.ensures.1 c.may_set.ensures.no_slot;
  no_read = search rules;
}

pub returns-clause-handles : goal.returns-clause-handles
returns-clause-handles g c = record {
  chunks = search rules;
  no_slot = call_passed (kept c.args.self.now) c.args.slot c.in_ok-place.place c.may_set.result c.change_at.result c.in_ok-place.was c.may_set.ensures.no_slot c.change_at.ensures.refused;
  no_read = search rules;
}
