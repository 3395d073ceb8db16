use Rattle.std.proofs.Common.{IsSome, ap, inl, subst, sym, rules}
use Rattle.std.proofs.lemmas.Result.{IfOk-from_err}
use Rattle.cache_theory.specs.Step.{doomed_under}
use Rattle.disk_theory.specs.State.{State, standing}
use Rattle.disk_theory.specs.declared.place.Place.TheVariants.{Entry}
use Rattle.file_handles.specs.Cache.{cache_at}
use Rattle.file_handles.specs.Kept.{kept}
use Rattle.file_handles.specs.Stands.{KeepsWhere}
use Rattle.handle_table.specs.Users.{users_at}
use Rattle.file_handles.specs.declared.fault.Effect.TheVariants.{Gone}
use Rattle.file_handles.proofs.Accounting.{change_handed_on}
use Rattle.file_handles.proofs.Dooming.DoomedCommand.{none_if, some_if}
use Rattle.file_handles.proofs.Dooming.GoneUnder.{gone_done_by, gone_fails_by, gone_or_not}
use Rattle.file_handles.proofs.Histories.{history_of}
use Rattle.file_handles.proofs.IndexLeft.{removed_left, then_left}
use Rattle.file_handles.proofs.Dooming.MarkLeft.{removed_marked, then_marked}
use Rattle.file_handles.proofs.TakingSteps.{removed_takes, takes_after}
use Rattle.file_handles.proofs.handles.Handles.doom_name.Goals as goal

pub returns-in_err-doom_user-clause-dooms : goal.returns-in_err-doom_user-clause-dooms
returns-in_err-doom_user-clause-dooms g c = λ tells. record {
  leaves = λ b h touched stand.
      let left = (c.in_err-doom_user.ensures.dooms tells (λ bare. let never = (c.in_err-doom_user.ensures.none bare).0 in cc)).leaves b h touched stand in
      record {
        safe = left.safe;
        next = IfOk-from_err c.from_residual.result
            (λ done. KeepsWhere b (cache_at (kept c.doom_user.new.self) (g.D.Disk.state c.doom_user.new.disk)) (history_of (doomed_under h.machine c.args.name.now.0) h.marks)) c.from_residual.ensures.0;
      };
}

pub returns-in_err-doom_user-clause-aside : goal.returns-in_err-doom_user-clause-aside
returns-in_err-doom_user-clause-aside g c = record {
  takes = search rules;
  numbered = search rules;
  unmoved = search rules;
  slots = search rules;
  chunks = search rules;
  mark = search rules;
  index = search rules;
  unsynced = search rules;
  refused = search rules;
  no_read = search rules;
  disk = record {
    account = search rules;
    change = change_handed_on g.D.Disk c.in_err-doom_user.field-0.0 c.from_residual.result c.doom_user.new.disk c.from_residual.ensures.1 c.in_err-doom_user.ensures.aside.disk.change;
    no_entry = search rules;
  };
}

pub returns-then-branch-clause-dooms : goal.returns-then-branch-clause-dooms
returns-then-branch-clause-dooms g c = λ tells. record {
  leaves = λ b h touched stand.
      let left = (c.in_ok-doom_user.ensures.dooms tells (some_if _ c.in_ok-doom_user.field-0 c.in_ok-doom_user.ensures.some c.if-branch.true)).leaves b h touched stand in
      record { safe = left.safe; next = left.next };
}

pub remove-requires : goal.remove-requires
remove-requires g c = λ tells.
    let bare = none_if _ c.in_ok-doom_user.field-0 c.in_ok-doom_user.ensures.some c.if-branch.false in
    let same = (c.in_ok-doom_user.ensures.none bare).1 in
    subst (λ (s : State). IsSome (standing s (Entry c.args.name.now))) (sym (ap g.D.Disk.state same.0))
    ((c.requires.told tells).1 (ap (users_at (kept c.args.self.now)) bare))

pub returns-in_err-remove-clause-dooms : goal.returns-in_err-remove-clause-dooms
returns-in_err-remove-clause-dooms g c = λ tells.
    let s = g.D.Disk.state c.doom_user.new.disk in
    let t = g.D.Disk.state c.remove.new.self in
    let bare = none_if _ c.in_ok-doom_user.field-0 c.in_ok-doom_user.ensures.some c.if-branch.false in
    let same = (c.in_ok-doom_user.ensures.none bare).1 in
    gone_fails_by g.D.Disk.state c.args.disk.now c.doom_user.new.disk t (kept c.args.self.now) (kept c.doom_user.new.self) c.args.name.now bare same.0 same.1
    c.from_residual-in_err-remove.result c.from_residual-in_err-remove.ensures.0 (gone_or_not s t c.args.name.now c.in_err-remove.field-0.0 (c.in_err-remove.ensures.state tells))

pub returns-clause-dooms : goal.returns-clause-dooms
returns-clause-dooms g c = λ tells.
    let bare = none_if _ c.in_ok-doom_user.field-0 c.in_ok-doom_user.ensures.some c.if-branch.false in
    let same = (c.in_ok-doom_user.ensures.none bare).1 in
    gone_done_by g.D.Disk.state c.args.disk.now c.doom_user.new.disk (g.D.Disk.state c.remove.new.self) (kept c.args.self.now) (kept c.doom_user.new.self) c.args.name.now bare same.0 same.1
    (Gone c.args.name.now) (inl (c.in_ok-remove.ensures.state tells))

pub returns-in_err-remove-clause-aside : goal.returns-in_err-remove-clause-aside
returns-in_err-remove-clause-aside g c = record {
  takes = λ told. let s = g.D.Disk.state c.doom_user.new.disk in
      let t = g.D.Disk.state c.remove.new.self in
      let bare = none_if _ c.in_ok-doom_user.field-0 c.in_ok-doom_user.ensures.some c.if-branch.false in
      takes_after c.args.name.now (g.D.Disk.state c.args.disk.now) s t (ap g.D.Disk.state (c.in_ok-doom_user.ensures.none bare).1.0) (removed_takes c.remove.result s t c.args.name.now (c.remove.ensures.state told));
  numbered = search rules;
  unmoved = λ place number is. let bare = none_if _ c.in_ok-doom_user.field-0 c.in_ok-doom_user.ensures.some c.if-branch.false in
      let user = is.user in
      absurd (cc);
  slots = search rules;
  chunks = search rules;
  mark = λ told. let s = g.D.Disk.state c.doom_user.new.disk in
      let t = g.D.Disk.state c.remove.new.self in
      then_marked (g.D.Disk.state c.args.disk.now) s t (c.doom_user.ensures.aside.mark told) (removed_marked c.remove.result s t c.args.name.now (c.remove.ensures.state told));
  index = λ told. then_left (g.D.Disk.state c.args.disk.now) (g.D.Disk.state c.doom_user.new.disk) (g.D.Disk.state c.remove.new.self) (c.doom_user.ensures.aside.index told)
      (removed_left c.remove.result _ _ c.args.name.now (c.remove.ensures.state told));
  unsynced = search rules;
  refused = search rules;
  no_read = search rules;
  disk = record {
    account = record { cause = search rules; went_on = search rules; stops = search rules; last = search rules; syncs = search rules };
    change = λ failed told. search rules;
    no_entry = search rules;
  };
}

pub returns-clause-aside : goal.returns-clause-aside
returns-clause-aside g c = record {
  takes = λ told. let s = g.D.Disk.state c.doom_user.new.disk in
      let t = g.D.Disk.state c.remove.new.self in
      let bare = none_if _ c.in_ok-doom_user.field-0 c.in_ok-doom_user.ensures.some c.if-branch.false in
      takes_after c.args.name.now (g.D.Disk.state c.args.disk.now) s t (ap g.D.Disk.state (c.in_ok-doom_user.ensures.none bare).1.0) (removed_takes c.remove.result s t c.args.name.now (c.remove.ensures.state told));
  numbered = search rules;
  unmoved = λ place number is. let bare = none_if _ c.in_ok-doom_user.field-0 c.in_ok-doom_user.ensures.some c.if-branch.false in
      let user = is.user in
      absurd (cc);
  slots = search rules;
  chunks = search rules;
  mark = λ told. let s = g.D.Disk.state c.doom_user.new.disk in
      let t = g.D.Disk.state c.remove.new.self in
      then_marked (g.D.Disk.state c.args.disk.now) s t (c.doom_user.ensures.aside.mark told) (removed_marked c.remove.result s t c.args.name.now (c.remove.ensures.state told));
  index = λ told. then_left (g.D.Disk.state c.args.disk.now) (g.D.Disk.state c.doom_user.new.disk) (g.D.Disk.state c.remove.new.self) (c.doom_user.ensures.aside.index told)
      (removed_left c.remove.result _ _ c.args.name.now (c.remove.ensures.state told));
  unsynced = search rules;
  refused = search rules;
  no_read = search rules;
  disk = search rules;
}
