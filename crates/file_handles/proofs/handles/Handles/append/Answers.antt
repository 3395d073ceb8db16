use Rattle.std.proofs.Common.{◌≡◌, ◌+◌, ◌<◌, length, Ok, Some, arith, inl, refl, sym, ap, ◌∙◌, rules}
use Rattle.cache_base.proofs.ByteLaws.{all_below}
use Rattle.cache_theory.specs.Command.Command.{Append}
use Rattle.file_handles.specs.Changes.{appended}
use Rattle.handle_table.specs.Held.{rest_in}
use Rattle.file_handles.specs.Kept.{kept}
use Rattle.handle_table.specs.declared.object.Object.{Object}
use Rattle.file_handles.proofs.Carried.{change_carried}
use Rattle.file_handles.specs.Answers.{done_or}
use Rattle.file_handles.proofs.Setting.ElementChecks.{both_right, if_object, the_object}
use Rattle.file_handles.proofs.Finishing.InChunk.{appends_done, fits_held}
use Rattle.file_handles.proofs.Places.{filed_somehow}
use Rattle.file_handles.proofs.Finishing.WriterCommands.{append_makes}
use Rattle.file_handles.proofs.Refused.{refused_answer}
use Rattle.file_handles.proofs.IndexLeft.{change_left}
use Rattle.cache_theory.specs.Step.{stepped}
use Rattle.file_handles.specs.declared.fault.HandleFault.TheVariants as fault
use Rattle.file_handles.proofs.Reading.PartsSlots.{err_is}
use Rattle.file_handles.proofs.UnsyncedLaws.{change_unsynced}
use Rattle.file_handles.proofs.NoSlots.{call_handed_on, call_passed}
use Rattle.file_handles.proofs.handles.Handles.append.Goals as goal

pub append_at-requires-clause-told : goal.append_at-requires-clause-told
append_at-requires-clause-told g c told = filed_somehow _ _ _ (c.requires.told told)

pub append_at-requires-clause-limit : goal.append_at-requires-clause-limit
append_at-requires-clause-limit g c = both_right _ _ _ c.in_ok-place.ensures.object

pub returns-clause-carried : goal.returns-clause-carried
returns-clause-carried g c told =
    let s = g.D.Disk.state c.args.disk.now in
    let t = g.D.Disk.state c.append_at.new.disk in
    let k = kept c.args.self.now in
    let b = c.args.b.now in
    let there = the_object _ _ c.in_ok-place.ensures.object in
    change_carried s t (g.met.D.Disk.sound c.args.disk.now told) k (kept c.append_at.new.self) (Append c.args.slot b) c.args.slot c.requires.slot c.in_ok-place.place there.0 there.1.1.0 (appended b) (λ o. Unit {0})
    (append_makes k c.args.slot b (all_below 256 b (λ i. omega (arith, c.type_inv.b i))) (c.in_ok-place.ensures.passes b refl))
    c.append_at.result (c.append_at.ensures.changes told there.0 there.1.0) (λ o held. inl tt) c.append_at.ensures.refused

pub returns-clause-within : goal.returns-clause-within
returns-clause-within g c = λ m number stand fits.
    let k = kept c.args.self.now in
    let there = the_object _ _ c.in_ok-place.ensures.object in
    let small = fits_held k m number stand c.args.slot c.requires.slot c.in_ok-place.place there.0 there.1.1.0 c.args.b.now fits in
    let P : Object → Type 0 = λ x. length (rest_in x.entry) + length c.args.b.now < 262144 → (c.append_at.result ≡ Ok tt) × (c.append_at.new.disk ≡ c.args.disk.now) in
    (if_object _ there.0 P there.1.0 c.append_at.ensures.within small).1

pub returns-clause-within_reply : goal.returns-clause-within_reply
returns-clause-within_reply g c = λ m number proper stand fits.
    let k = kept c.args.self.now in
    let b = c.args.b.now in
    let there = the_object _ _ c.in_ok-place.ensures.object in
    let small = fits_held k m number stand c.args.slot c.requires.slot c.in_ok-place.place there.0 there.1.1.0 b fits in
    let P : Object → Type 0 = λ x. length (rest_in x.entry) + length c.args.b.now < 262144 → (c.append_at.result ≡ Ok tt) × (c.append_at.new.disk ≡ c.args.disk.now) in
    ap done_or (if_object _ there.0 P there.1.0 c.append_at.ensures.within small).0
    ∙ ap (λ r. Some r) (sym (appends_done m c.args.slot b (c.in_ok-place.ensures.passes b refl m number proper stand)))

pub returns-in_err-place-clause-carried : goal.returns-in_err-place-clause-carried
returns-in_err-place-clause-carried g c = λ told.
    refused_answer c.from_residual.result (g.D.Disk.state c.args.disk.now) (kept c.args.self.now) (Append c.args.slot c.args.b.now) c.in_err-place.field-0.0 c.from_residual.ensures.1 (c.in_err-place.ensures.refused c.args.b.now refl)

pub returns-clause-files : goal.returns-clause-files
returns-clause-files g c = record {
  unchanged = search rules;
  index = λ told. let there = the_object _ _ c.in_ok-place.ensures.object in
      change_left (g.D.Disk.state c.args.disk.now) (g.D.Disk.state c.append_at.new.disk) (kept c.args.self.now) (kept c.append_at.new.self) c.in_ok-place.place there.0 (appended c.args.b.now) c.append_at.result
      (g.met.D.Disk.sound c.args.disk.now told) there.1.0 (filed_somehow _ _ _ (c.requires.told told)) (c.append_at.ensures.changes told);
  disk = search rules;
}

pub returns-in_err-place-clause-within_reply : goal.returns-in_err-place-clause-within_reply
returns-in_err-place-clause-within_reply g c = λ m number proper stand fits.
    ap done_or (err_is c.from_residual.result (fault.Refused c.in_err-place.field-0.0) c.from_residual.ensures.1)
    ∙ ap (λ o. Some (stepped m (Append c.args.slot c.args.b.now) o).reply) (sym (c.in_err-place.ensures.refused c.args.b.now refl m number proper stand))

pub returns-clause-unsynced : goal.returns-clause-unsynced
returns-clause-unsynced g c told =
    let there = the_object _ _ c.in_ok-place.ensures.object in
    change_unsynced (g.D.Disk.state c.args.disk.now) (g.D.Disk.state c.append_at.new.disk) (kept c.args.self.now) (kept c.append_at.new.self) c.in_ok-place.place there.0 (appended c.args.b.now) c.append_at.result
    there.1.0 (filed_somehow _ _ _ (c.requires.told told)) (c.append_at.ensures.changes told)

pub returns-in_err-place-clause-handles : goal.returns-in_err-place-clause-handles
returns-in_err-place-clause-handles g c = record {
  chunks = search rules;
  no_slot = call_handed_on (kept c.args.self.now) c.args.slot c.in_err-place.field-0.0 c.may_append.result c.from_residual.result c.in_err-place.was c.from_residual.ensures.1 c.may_append.ensures.no_slot;
  no_read = search rules;
}

pub returns-clause-handles : goal.returns-clause-handles
returns-clause-handles g c = record {
  chunks = search rules;
  no_slot = call_passed (kept c.args.self.now) c.args.slot c.in_ok-place.place c.may_append.result c.append_at.result c.in_ok-place.was c.may_append.ensures.no_slot c.append_at.ensures.refused;
  no_read = search rules;
}
