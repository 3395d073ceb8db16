use Rattle.std.proofs.Common.{arith, refl, length, subst, sym, IfSome, rules}
use Rattle.std.proofs.lemmas.Result.{IfOk-weaker}
use Rattle.cache_base.specs.Bytes.{AreBytes}
use Rattle.cache_base.proofs.ByteLaws.{all_below}
use Rattle.cache_theory.specs.Command.Command.{PutAlt}
use Rattle.disk_theory.specs.Prefixes.{KeepsPrefix}
use Rattle.disk_theory.specs.State.{State}
use Rattle.file_handles.specs.Cache.{cache_at}
use Rattle.file_handles.specs.Changes.{IsFiledAt}
use Rattle.file_handles.specs.Effects.{HasEffect, IsLearntOf}
use Rattle.handle_table.specs.Held.{body_len_in, object_place}
use Rattle.handle_table.specs.Kept.{object_at}
use Rattle.file_handles.specs.Kept.{kept}
use Rattle.file_handles.specs.PuttingAlt.{MayPut, PutsThere}
use Rattle.handle_table.specs.Refuses.{HasAt}
use Rattle.file_handles.proofs.PuttingAlt.AltCommand.{told_if, faulted_answer, kept_main, put_effect, put_leaves, put_left, put_main, put_told, put_unsynced}
use Rattle.file_handles.proofs.Setting.ElementChecks.{if_object, the_object}
use Rattle.file_handles.proofs.PuttingAlt.LongerEntry.{behind}
use Rattle.file_handles.proofs.Places.{filed_somehow}
use Rattle.file_handles.proofs.Refused.{refused_answer}
use Rattle.file_handles.proofs.NoSlots.{call_handed_on, call_passed, never_refused}
use Rattle.file_handles.proofs.IndexLeft.{same_left}
use Rattle.file_handles.proofs.UnsyncedLaws.{same_unsynced}
use Rattle.file_handles.proofs.handles.Handles.put_alt.Goals as goal

pub returns-in_err-place-clause-carried : goal.returns-in_err-place-clause-carried
returns-in_err-place-clause-carried g c told =
    refused_answer c.from_residual.result (g.D.Disk.state c.args.disk.now) (kept c.args.self.now) (PutAlt c.args.slot c.args.kind.now c.args.alt.now)
    c.in_err-place.field-0.0 c.from_residual.ensures.1 c.in_err-place.ensures.refused

pub returns-in_err-place-clause-main : goal.returns-in_err-place-clause-main
returns-in_err-place-clause-main g c told = kept_main (g.met.D.Disk.sound c.args.disk.now told) (kept c.args.self.now) c.args.slot refl

pub hashes_at-requires-clause-told : goal.hashes_at-requires-clause-told
hashes_at-requires-clause-told g c told = filed_somehow _ _ _ (c.requires.told told)

pub returns-in_err-hashes-clause-carried : goal.returns-in_err-hashes-clause-carried
returns-in_err-hashes-clause-carried g c told =
    faulted_answer c.from_residual-in_err-hashes.result c.hashes_at.result c.in_err-hashes.field-0.0 (g.D.Disk.state c.args.disk.now) (g.D.Disk.state c.hashes_at.new.disk) (kept c.args.self.now)
    (PutAlt c.args.slot c.args.kind.now c.args.alt.now) c.in_err-hashes.was c.hashes_at.ensures.refused c.from_residual-in_err-hashes.ensures.1 (c.hashes_at.ensures.looks.state told)

pub returns-in_err-hashes-clause-main : goal.returns-in_err-hashes-clause-main
returns-in_err-hashes-clause-main g c told = kept_main (g.met.D.Disk.sound c.args.disk.now told) (kept c.args.self.now) c.args.slot (c.hashes_at.ensures.looks.state told)

pub put_at-requires-clause-told : goal.put_at-requires-clause-told
put_at-requires-clause-told g c told =
    subst (λ (s : State). IsFiledAt (cache_at (kept c.args.self.now) s) c.in_ok-place.place) (sym (c.hashes_at.ensures.looks.state told)) (filed_somehow _ _ _ (c.requires.told told))

pub returns-clause-carried : goal.returns-clause-carried
returns-clause-carried g c told =
    let s = g.D.Disk.state c.args.disk.now in
    let t = g.D.Disk.state c.put_at.new.disk in
    let k = kept c.args.self.now in
    let after = kept c.put_at.new.self in
    let kind = c.args.kind.now in
    let alt = c.args.alt.now in
    let p = c.in_ok-place.place in
    let kind_bytes : AreBytes kind = all_below 256 kind (λ i. omega (arith, c.type_inv.kind i)) in
    let alt_bytes : AreBytes alt = all_below 256 alt (λ i. omega (arith, c.type_inv.alt i)) in
    let there = the_object (object_at k p) (λ x. HasAt k c.args.slot p x × MayPut kind (length alt) x) c.in_ok-place.ensures.object in
    let puts = subst (λ (u : State). PutsThere p kind alt c.put_at.result (cache_at k u) (cache_at after t)) (c.hashes_at.ensures.looks.state told) (c.put_at.ensures.changes told) in
    put_leaves s t (g.met.D.Disk.sound c.args.disk.now told) k after c.args.slot c.requires.slot p there.0 there.1.1.0 kind alt there.1.1.1 c.put_at.result puts
    kind_bytes alt_bytes c.in_ok-place.ensures.passes c.put_at.ensures.refused

pub returns-clause-effect : goal.returns-clause-effect
returns-clause-effect g c =
    let k = kept c.args.self.now in
    let kind = c.args.kind.now in
    let alt = c.args.alt.now in
    let p = c.in_ok-place.place in
    let kind_bytes : AreBytes kind = all_below 256 kind (λ i. omega (arith, c.type_inv.kind i)) in
    let alt_bytes : AreBytes alt = all_below 256 alt (λ i. omega (arith, c.type_inv.alt i)) in
    let there = the_object (object_at k p) (λ x. HasAt k c.args.slot p x × MayPut kind (length alt) x) c.in_ok-place.ensures.object in
    IfOk-weaker c.put_at.result (IsLearntOf (behind kind alt) (object_at k p)) (HasEffect k (PutAlt c.args.slot kind alt)) (λ e is.
    put_effect k c.args.slot c.requires.slot p there.0 there.1.1.0 kind alt kind_bytes alt_bytes c.in_ok-place.ensures.passes e is)
    c.put_at.ensures.effect

pub returns-clause-put : goal.returns-clause-put
returns-clause-put g c = told_if c.put_at.result _ (λ told.
    let s = g.D.Disk.state c.args.disk.now in
    let t = g.D.Disk.state c.put_at.new.disk in
    let k = kept c.args.self.now in
    let after = kept c.put_at.new.self in
    let kind = c.args.kind.now in
    let alt = c.args.alt.now in
    let p = c.in_ok-place.place in
    let there = the_object (object_at k p) (λ x. HasAt k c.args.slot p x × MayPut kind (length alt) x) c.in_ok-place.ensures.object in
    let puts = subst (λ (u : State). PutsThere p kind alt c.put_at.result (cache_at k u) (cache_at after t)) (c.hashes_at.ensures.looks.state told) (c.put_at.ensures.changes told) in
    put_told s t (g.met.D.Disk.sound c.args.disk.now told) k after c.args.slot c.requires.slot p there.0 there.1.1.0 kind alt there.1.1.1 c.put_at.result puts (filed_somehow _ _ _ (c.requires.told told)))

pub returns-clause-main : goal.returns-clause-main
returns-clause-main g c told =
    let s = g.D.Disk.state c.args.disk.now in
    let t = g.D.Disk.state c.put_at.new.disk in
    let k = kept c.args.self.now in
    let after = kept c.put_at.new.self in
    let kind = c.args.kind.now in
    let alt = c.args.alt.now in
    let p = c.in_ok-place.place in
    let there = the_object (object_at k p) (λ x. HasAt k c.args.slot p x × MayPut kind (length alt) x) c.in_ok-place.ensures.object in
    let puts = subst (λ (u : State). PutsThere p kind alt c.put_at.result (cache_at k u) (cache_at after t)) (c.hashes_at.ensures.looks.state told) (c.put_at.ensures.changes told) in
    let keeps = if_object (object_at k p) there.0 (λ x. KeepsPrefix (object_place x) (body_len_in x.entry) s t) there.1.0
    (subst (λ (u : State). IfSome (object_at k p) (λ x. KeepsPrefix (object_place x) (body_len_in x.entry) u t)) (c.hashes_at.ensures.looks.state told) (c.put_at.ensures.prefix told)) in
    put_main s t (g.met.D.Disk.sound c.args.disk.now told) k after c.args.slot c.requires.slot p there.0 there.1.1.0 kind alt there.1.1.1 c.put_at.result puts (filed_somehow _ _ _ (c.requires.told told)) keeps

pub returns-clause-looks : goal.returns-clause-looks
returns-clause-looks g c = record {
  read = search rules;
  change = search rules;
  unsynced = λ told. let s = g.D.Disk.state c.args.disk.now in
      let t = g.D.Disk.state c.put_at.new.disk in
      let k = kept c.args.self.now in
      let after = kept c.put_at.new.self in
      let kind = c.args.kind.now in
      let alt = c.args.alt.now in
      let p = c.in_ok-place.place in
      let there = the_object (object_at k p) (λ x. HasAt k c.args.slot p x × MayPut kind (length alt) x) c.in_ok-place.ensures.object in
      let puts = subst (λ (u : State). PutsThere p kind alt c.put_at.result (cache_at k u) (cache_at after t)) (c.hashes_at.ensures.looks.state told) (c.put_at.ensures.changes told) in
      put_unsynced s t (g.met.D.Disk.sound c.args.disk.now told) k after c.args.slot c.requires.slot p there.0 there.1.1.0 kind alt there.1.1.1 c.put_at.result puts (filed_somehow _ _ _ (c.requires.told told));
  index = λ told. let s = g.D.Disk.state c.args.disk.now in
      let t = g.D.Disk.state c.put_at.new.disk in
      let k = kept c.args.self.now in
      let after = kept c.put_at.new.self in
      let kind = c.args.kind.now in
      let alt = c.args.alt.now in
      let p = c.in_ok-place.place in
      let there = the_object (object_at k p) (λ x. HasAt k c.args.slot p x × MayPut kind (length alt) x) c.in_ok-place.ensures.object in
      let puts = subst (λ (u : State). PutsThere p kind alt c.put_at.result (cache_at k u) (cache_at after t)) (c.hashes_at.ensures.looks.state told) (c.put_at.ensures.changes told) in
      put_left s t (g.met.D.Disk.sound c.args.disk.now told) k after c.args.slot c.requires.slot p there.0 there.1.1.0 kind alt there.1.1.1 c.put_at.result puts (filed_somehow _ _ _ (c.requires.told told));
  account = search rules;
}

pub returns-in_err-place-clause-no_slot : goal.returns-in_err-place-clause-no_slot
returns-in_err-place-clause-no_slot g c =
    call_handed_on (kept c.args.self.now) c.args.slot c.in_err-place.field-0.0 c.may_put_alt.result c.from_residual.result c.in_err-place.was c.from_residual.ensures.1 c.may_put_alt.ensures.no_slot

pub returns-in_err-hashes-clause-no_slot : goal.returns-in_err-hashes-clause-no_slot
returns-in_err-hashes-clause-no_slot g c =
    call_passed (kept c.args.self.now) c.args.slot c.in_ok-place.place c.may_put_alt.result c.from_residual-in_err-hashes.result c.in_ok-place.was c.may_put_alt.ensures.no_slot
    (never_refused c.in_err-hashes.field-0.0 c.from_residual-in_err-hashes.result c.from_residual-in_err-hashes.ensures.1 c.in_err-hashes.ensures.refused)

pub returns-clause-no_slot : goal.returns-clause-no_slot
returns-clause-no_slot g c =
    call_passed (kept c.args.self.now) c.args.slot c.in_ok-place.place c.may_put_alt.result c.put_at.result c.in_ok-place.was c.may_put_alt.ensures.no_slot c.put_at.ensures.refused

pub returns-in_err-hashes-clause-looks : goal.returns-in_err-hashes-clause-looks
returns-in_err-hashes-clause-looks g c = record {
  read = search rules;
  change = search rules;
  unsynced = λ told. same_unsynced (c.hashes_at.ensures.looks.state told);
  index = λ told. same_left (c.hashes_at.ensures.looks.state told);
  account = search rules;
}
