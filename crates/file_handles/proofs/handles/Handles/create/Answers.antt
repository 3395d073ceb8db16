use Rattle.std.proofs.Common.{◌∙◌, None, inl, sym, ap, subst, arith, rules, ◌≡◌, IsErrAnd}
use Rattle.std.specs.Prelude.{slice_get, unwrap_or}
use Rattle.cache_base.proofs.ByteLaws.{all_below}
use Rattle.cache_theory.specs.Command.Command.{Create}
use Rattle.cache_theory.specs.Step.{fresh}
use Rattle.handle_table.specs.Held.{IsHeldAs}
use Rattle.handle_table.specs.Kept.{use_at}
use Rattle.file_handles.specs.Kept.{kept}
use Rattle.file_handles.specs.declared.fault.Effect.TheVariants.{Gone}
use Rattle.file_handles.proofs.Joining.CreatedCommand.{added_leaves, bad_key_leaves, doom_done, doom_fails, doom_numbered, draft_safe, may_create_by, taken_leaves}
use Rattle.file_handles.proofs.Dooming.DoomedCommand.{failed_on_leaves}
use Rattle.file_handles.proofs.Dooming.FirstFree.{may_take}
use Rattle.file_handles.proofs.Joining.JoinedOpen.{used_none}
use Rattle.file_handles.proofs.Where.{carries_out_at}
use Rattle.file_handles.proofs.IndexLeft.{made_left, then_left}
use Rattle.file_handles.proofs.UnsyncedLaws.{made_unsynced, then_unsynced}
use Rattle.disk_theory.specs.Account.{Ending}
use Rattle.file_handles.proofs.Accounting.{accounts_then, out_of_memory}
use Rattle.file_handles.proofs.handles.Handles.create.Goals as goal

pub returns-then-is_ok-clause-carried : goal.returns-then-is_ok-clause-carried
returns-then-is_ok-clause-carried g c = λ tells.
    taken_leaves (g.D.Disk.state c.args.disk.now) (kept c.args.self.now) c.args.slot c.args.key.now c.requires.slot c.use_of.result c.use_of.ensures (sym c.is_ok.ensures.value ∙ c.if-is_ok.true) c.args.now

pub returns-then-not-may_write-clause-carried : goal.returns-then-not-may_write-clause-carried
returns-then-not-may_write-clause-carried g c = λ tells.
    let k = kept c.args.self.now in
    bad_key_leaves (g.D.Disk.state c.args.disk.now) k c.args.slot c.args.key.now c.requires.slot (used_none (use_at k c.args.slot) c.use_of.result c.use_of.ensures (sym c.is_ok.ensures.value ∙ c.if-is_ok.false))
    (sym c.may_write.ensures ∙ c.if-not-may_write.true) c.args.now

pub returns-in_err-doom_there-clause-carried : goal.returns-in_err-doom_there-clause-carried
returns-in_err-doom_there-clause-carried g c = λ tells. carries_out_at (λ b m w moment stand.
    let k = kept c.args.self.now in
    let s = g.D.Disk.state c.args.disk.now in
    let may =
    may_create_by k c.args.slot c.args.key.now c.name_of-name.result c.requires.slot c.use_of.result c.use_of.ensures c.is_ok.result c.may_write.result c.is_ok.ensures.value c.if-is_ok.false
    c.may_write.ensures c.if-not-may_write.false c.name_of-name.ensures
    in
    let safe =
    doom_fails s k c.args.slot c.args.key.now c.name_of-name.result may m w stand (g.D.Disk.state c.doom_there.new.disk) (kept c.doom_there.new.self) c.in_err-doom_there.field-0.0
    (c.in_err-doom_there.ensures.dooms tells)
    in
    failed_on_leaves c.from_residual.result c.in_err-doom_there.field-0.0 (g.D.Disk.state c.doom_there.new.disk) (kept c.doom_there.new.self) (Create c.args.slot c.args.key.now)
    c.from_residual.ensures.1 (λ refusal same. c.in_err-doom_there.ensures.refused refusal same) m w safe)

pub returns-in_err-object-clause-carried : goal.returns-in_err-object-clause-carried
returns-in_err-object-clause-carried g c = λ tells. carries_out_at (λ b m w moment stand.
    let k = kept c.args.self.now in
    let s = g.D.Disk.state c.args.disk.now in
    let may =
    may_create_by k c.args.slot c.args.key.now c.name_of-name.result c.requires.slot c.use_of.result c.use_of.ensures c.is_ok.result c.may_write.result c.is_ok.ensures.value c.if-is_ok.false
    c.may_write.ensures c.if-not-may_write.false c.name_of-name.ensures
    in
    let stands =
    doom_done s k c.args.slot c.args.key.now c.name_of-name.result may m w stand (g.D.Disk.state c.doom_there.new.disk) (kept c.doom_there.new.self) (c.in_ok-doom_there.ensures.dooms tells)
    in
    let safe =
    draft_safe s k c.args.slot c.args.key.now c.name_of-name.result may m w stand (g.D.Disk.state c.doom_there.new.disk) (g.D.Disk.state c.drafted.new.disk) (kept c.doom_there.new.self) c.free_number-aside.result
    (g.met.D.Disk.sound c.doom_there.new.disk tells) stands (c.in_err-object.ensures.state tells).either
    in
    failed_on_leaves c.from_residual-in_err-object.result c.in_err-object.field-0.0 (g.D.Disk.state c.drafted.new.disk) (kept c.doom_there.new.self) (Create c.args.slot c.args.key.now)
    c.from_residual-in_err-object.ensures.1 (λ refusal same. c.in_err-object.ensures.refused refusal same) m w safe)

pub returns-in_err-add-clause-carried : goal.returns-in_err-add-clause-carried
returns-in_err-add-clause-carried g c = λ tells. carries_out_at (λ b m w moment stand.
    let k = kept c.args.self.now in
    let s = g.D.Disk.state c.args.disk.now in
    let may =
    may_create_by k c.args.slot c.args.key.now c.name_of-name.result c.requires.slot c.use_of.result c.use_of.ensures c.is_ok.result c.may_write.result c.is_ok.ensures.value c.if-is_ok.false
    c.may_write.ensures c.if-not-may_write.false c.name_of-name.ensures
    in
    let stands =
    doom_done s k c.args.slot c.args.key.now c.name_of-name.result may m w stand (g.D.Disk.state c.doom_there.new.disk) (kept c.doom_there.new.self) (c.in_ok-doom_there.ensures.dooms tells)
    in
    let safe =
    draft_safe s k c.args.slot c.args.key.now c.name_of-name.result may m w stand (g.D.Disk.state c.doom_there.new.disk) (g.D.Disk.state c.drafted.new.disk) (kept c.doom_there.new.self) c.free_number-aside.result
    (g.met.D.Disk.sound c.doom_there.new.disk tells) stands (inl (c.in_ok-object.ensures.state tells).made)
    in
    failed_on_leaves c.from_residual-in_err-add.result c.in_err-add.field-0.0 (g.D.Disk.state c.drafted.new.disk) (kept c.add.new.self) (Create c.args.slot c.args.key.now)
    c.from_residual-in_err-add.ensures.1 (λ refusal same. c.in_err-add.ensures.adds.refused refusal same) m w safe)

pub returns-clause-carried : goal.returns-clause-carried
returns-clause-carried g c = λ tells. carries_out_at (λ b m w moment stand.
    let k = kept c.args.self.now in
    let s = g.D.Disk.state c.args.disk.now in
    let may =
    may_create_by k c.args.slot c.args.key.now c.name_of-name.result c.requires.slot c.use_of.result c.use_of.ensures c.is_ok.result c.may_write.result c.is_ok.ensures.value c.if-is_ok.false
    c.may_write.ensures c.if-not-may_write.false c.name_of-name.ensures
    in
    let stands =
    doom_done s k c.args.slot c.args.key.now c.name_of-name.result may m w stand (g.D.Disk.state c.doom_there.new.disk) (kept c.doom_there.new.self) (c.in_ok-doom_there.ensures.dooms tells)
    in
    added_leaves s k c.args.slot c.args.key.now c.name_of-name.result may m w stand (g.D.Disk.state c.doom_there.new.disk) (g.D.Disk.state c.drafted.new.disk) (kept c.doom_there.new.self) c.free_number-aside.result
    (g.met.D.Disk.sound c.doom_there.new.disk tells) stands (kept c.add.new.self) c.in_ok-object.object (all_below 256 c.args.key.now (λ i. omega (arith, c.type_inv.key i))) (c.in_ok-object.ensures.state tells).made
    c.in_ok-object.ensures.draft.1.0 c.free_number-aside.ensures.least.free
    (subst (λ n. IsHeldAs c.in_ok-object.object (fresh n c.args.key.now)) (sym moment) c.in_ok-object.ensures.draft.1.1) c.in_ok-add.ensures.adds.added (omega arith) (λ p lt. omega arith))

pub returns-in_err-object-clause-looks : goal.returns-in_err-object-clause-looks
returns-in_err-object-clause-looks g c = record {
  read = search rules;
  change = search rules;
  unsynced = λ told. then_unsynced (g.D.Disk.state c.args.disk.now) (g.D.Disk.state c.doom_there.new.disk) (g.D.Disk.state c.drafted.new.disk) (c.doom_there.ensures.looks.unsynced told)
      (made_unsynced c.drafted.result _ _ c.free_number-aside.result (c.drafted.ensures.state told));
  index = λ told. then_left (g.D.Disk.state c.args.disk.now) (g.D.Disk.state c.doom_there.new.disk) (g.D.Disk.state c.drafted.new.disk) (c.doom_there.ensures.looks.index told)
      (made_left c.drafted.result _ _ c.free_number-aside.result (g.met.D.Disk.sound c.doom_there.new.disk told) (c.drafted.ensures.state told));
  account = search rules;
}

pub returns-in_err-add-clause-looks : goal.returns-in_err-add-clause-looks
returns-in_err-add-clause-looks g c = record {
  read = search rules;
  change = search rules;
  unsynced = λ told. then_unsynced (g.D.Disk.state c.args.disk.now) (g.D.Disk.state c.doom_there.new.disk) (g.D.Disk.state c.drafted.new.disk) (c.doom_there.ensures.looks.unsynced told)
      (made_unsynced c.drafted.result _ _ c.free_number-aside.result (c.drafted.ensures.state told));
  index = λ told. then_left (g.D.Disk.state c.args.disk.now) (g.D.Disk.state c.doom_there.new.disk) (g.D.Disk.state c.drafted.new.disk) (c.doom_there.ensures.looks.index told)
      (made_left c.drafted.result _ _ c.free_number-aside.result (g.met.D.Disk.sound c.doom_there.new.disk told) (c.drafted.ensures.state told));
  account = out_of_memory g.D.Disk c.from_residual-in_err-add.result c.args.disk.now c.drafted.new.disk
      (subst (λ f. IsErrAnd c.from_residual-in_err-add.result (λ e. e ≡ f)) c.in_err-add.ensures.adds.memory c.from_residual-in_err-add.ensures.1)
      (accounts_then g.D.Disk Ending.NoneFailed c.args.disk.now c.doom_there.new.disk c.drafted.new.disk c.in_ok-doom_there.ensures.looks.account c.in_ok-object.ensures.disk.account);
}

pub returns-clause-looks : goal.returns-clause-looks
returns-clause-looks g c = record {
  read = search rules;
  change = search rules;
  unsynced = λ told. then_unsynced (g.D.Disk.state c.args.disk.now) (g.D.Disk.state c.doom_there.new.disk) (g.D.Disk.state c.drafted.new.disk) (c.doom_there.ensures.looks.unsynced told)
      (made_unsynced c.drafted.result _ _ c.free_number-aside.result (c.drafted.ensures.state told));
  index = λ told. then_left (g.D.Disk.state c.args.disk.now) (g.D.Disk.state c.doom_there.new.disk) (g.D.Disk.state c.drafted.new.disk) (c.doom_there.ensures.looks.index told)
      (made_left c.drafted.result _ _ c.free_number-aside.result (g.met.D.Disk.sound c.doom_there.new.disk told) (c.drafted.ensures.state told));
  account = search rules;
}

pub returns-in_err-object-clause-numbered : goal.returns-in_err-object-clause-numbered
returns-in_err-object-clause-numbered g c = λ tells.
    may_take (g.D.Disk.state c.args.disk.now) (g.D.Disk.state c.doom_there.new.disk) (g.D.Disk.state c.drafted.new.disk) (kept c.doom_there.new.self) c.free_number-aside.result (g.met.D.Disk.sound c.doom_there.new.disk tells)
    (doom_numbered (g.D.Disk.state c.args.disk.now) (g.D.Disk.state c.doom_there.new.disk) (kept c.args.self.now) (kept c.doom_there.new.self) c.name_of-name.result (c.requires.told tells) (c.in_ok-doom_there.ensures.dooms tells))
    c.free_number-aside.ensures.least c.free_number-aside.ensures.few (c.in_ok-doom_there.ensures.numbered tells) (c.in_err-object.ensures.state tells).either

pub returns-in_err-add-clause-numbered : goal.returns-in_err-add-clause-numbered
returns-in_err-add-clause-numbered g c = λ tells.
    may_take (g.D.Disk.state c.args.disk.now) (g.D.Disk.state c.doom_there.new.disk) (g.D.Disk.state c.drafted.new.disk) (kept c.doom_there.new.self) c.free_number-aside.result (g.met.D.Disk.sound c.doom_there.new.disk tells)
    (doom_numbered (g.D.Disk.state c.args.disk.now) (g.D.Disk.state c.doom_there.new.disk) (kept c.args.self.now) (kept c.doom_there.new.self) c.name_of-name.result (c.requires.told tells) (c.in_ok-doom_there.ensures.dooms tells))
    c.free_number-aside.ensures.least c.free_number-aside.ensures.few (c.in_ok-doom_there.ensures.numbered tells) (inl (c.in_ok-object.ensures.state tells).made)

pub returns-clause-numbered : goal.returns-clause-numbered
returns-clause-numbered g c = λ tells.
    may_take (g.D.Disk.state c.args.disk.now) (g.D.Disk.state c.doom_there.new.disk) (g.D.Disk.state c.drafted.new.disk) (kept c.doom_there.new.self) c.free_number-aside.result (g.met.D.Disk.sound c.doom_there.new.disk tells)
    (doom_numbered (g.D.Disk.state c.args.disk.now) (g.D.Disk.state c.doom_there.new.disk) (kept c.args.self.now) (kept c.doom_there.new.self) c.name_of-name.result (c.requires.told tells) (c.in_ok-doom_there.ensures.dooms tells))
    c.free_number-aside.ensures.least c.free_number-aside.ensures.few (c.in_ok-doom_there.ensures.numbered tells) (inl (c.in_ok-object.ensures.state tells).made)

pub returns-clause-effect : goal.returns-clause-effect
returns-clause-effect g c = λ m number proper stand. ap (λ n. Gone (record { 0 = n })) c.name_of-name.ensures

pub free_number-aside-requires-clause-free : goal.free_number-aside-requires-clause-free
free_number-aside-requires-clause-free g c =
    ap (λ slots. unwrap_or (slice_get slots c.args.slot) None) c.doom_there.ensures.slots
    ∙ used_none (use_at (kept c.args.self.now) c.args.slot) c.use_of.result c.use_of.ensures (sym c.is_ok.ensures.value ∙ c.if-is_ok.false)

pub add-requires-clause-free : goal.add-requires-clause-free
add-requires-clause-free g c =
    ap (λ slots. unwrap_or (slice_get slots c.args.slot) None) c.doom_there.ensures.slots
    ∙ used_none (use_at (kept c.args.self.now) c.args.slot) c.use_of.result c.use_of.ensures (sym c.is_ok.ensures.value ∙ c.if-is_ok.false)
