use Rattle.std.proofs.Common.{ap, rules}
use Rattle.std.proofs.lemmas.Result.{IfOk-from_err}
use Rattle.file_handles.specs.Kept.{kept}
use Rattle.file_handles.proofs.Dooming.DoomedCommand.{none_if, some_if}
use Rattle.file_handles.proofs.Dooming.Unmoved.{gone_numbered}
use Rattle.file_handles.proofs.Dooming.GoneUnder.{gone_done_by, gone_fails_by}
use Rattle.file_handles.proofs.IndexLeft.{gone_left, then_left}
use Rattle.file_handles.proofs.UnsyncedLaws.{gone_unsynced, then_unsynced}
use Rattle.file_handles.proofs.handles.Handles.doom_there.Goals as goal

pub returns-in_err-doom_user-clause-dooms : goal.returns-in_err-doom_user-clause-dooms
returns-in_err-doom_user-clause-dooms g c = λ tells. record {
  leaves = λ b h touched stand.
      let left = (c.in_err-doom_user.ensures.dooms tells (λ bare. let never = (c.in_err-doom_user.ensures.none bare).0 in cc)).leaves b h touched stand in
      record { safe = left.safe; next = IfOk-from_err c.from_residual.result _ c.from_residual.ensures.0 };
}

pub returns-then-branch-clause-dooms : goal.returns-then-branch-clause-dooms
returns-then-branch-clause-dooms g c = λ tells. record {
  leaves = λ b h touched stand.
      let left = (c.in_ok-doom_user.ensures.dooms tells (some_if _ c.in_ok-doom_user.field-0 c.in_ok-doom_user.ensures.some c.if-branch.true)).leaves b h touched stand in
      record { safe = left.safe; next = left.next };
}

pub returns-in_err-remove_file-clause-dooms : goal.returns-in_err-remove_file-clause-dooms
returns-in_err-remove_file-clause-dooms g c = λ tells.
    let bare = none_if _ c.in_ok-doom_user.field-0 c.in_ok-doom_user.ensures.some c.if-branch.false in
    let same = (c.in_ok-doom_user.ensures.none bare).1 in
    gone_fails_by g.D.Disk.state c.args.disk.now c.doom_user.new.disk (g.D.Disk.state c.remove_file.new.disk) (kept c.args.self.now) (kept c.doom_user.new.self) c.args.name.now bare same.0 same.1
    c.from_residual-in_err-remove_file.result c.from_residual-in_err-remove_file.ensures.0 (c.in_err-remove_file.ensures.state tells).either

pub returns-clause-dooms : goal.returns-clause-dooms
returns-clause-dooms g c = λ tells.
    let bare = none_if _ c.in_ok-doom_user.field-0 c.in_ok-doom_user.ensures.some c.if-branch.false in
    let same = (c.in_ok-doom_user.ensures.none bare).1 in
    gone_done_by g.D.Disk.state c.args.disk.now c.doom_user.new.disk (g.D.Disk.state c.remove_file.new.disk) (kept c.args.self.now) (kept c.doom_user.new.self) c.args.name.now bare same.0 same.1
    tt (c.in_ok-remove_file.ensures.state tells).done

pub returns-in_err-remove_file-clause-looks : goal.returns-in_err-remove_file-clause-looks
returns-in_err-remove_file-clause-looks g c = record {
  read = search rules;
  change = search rules;
  unsynced = λ told. then_unsynced (g.D.Disk.state c.args.disk.now) (g.D.Disk.state c.doom_user.new.disk) (g.D.Disk.state c.remove_file.new.disk) (c.doom_user.ensures.aside.unsynced told)
      (gone_unsynced c.remove_file.result _ _ c.args.name.now (c.remove_file.ensures.state told));
  index = λ told. then_left (g.D.Disk.state c.args.disk.now) (g.D.Disk.state c.doom_user.new.disk) (g.D.Disk.state c.remove_file.new.disk) (c.doom_user.ensures.aside.index told)
      (gone_left c.remove_file.result _ _ c.args.name.now (c.remove_file.ensures.state told));
  account = search rules;
}

pub returns-clause-looks : goal.returns-clause-looks
returns-clause-looks g c = record {
  read = search rules;
  change = search rules;
  unsynced = λ told. then_unsynced (g.D.Disk.state c.args.disk.now) (g.D.Disk.state c.doom_user.new.disk) (g.D.Disk.state c.remove_file.new.disk) (c.doom_user.ensures.aside.unsynced told)
      (gone_unsynced c.remove_file.result _ _ c.args.name.now (c.remove_file.ensures.state told));
  index = λ told. then_left (g.D.Disk.state c.args.disk.now) (g.D.Disk.state c.doom_user.new.disk) (g.D.Disk.state c.remove_file.new.disk) (c.doom_user.ensures.aside.index told)
      (gone_left c.remove_file.result _ _ c.args.name.now (c.remove_file.ensures.state told));
  account = search rules;
}

pub returns-in_err-remove_file-clause-numbered : goal.returns-in_err-remove_file-clause-numbered
returns-in_err-remove_file-clause-numbered g c told =
    let bare = none_if _ c.in_ok-doom_user.field-0 c.in_ok-doom_user.ensures.some c.if-branch.false in
    gone_numbered c.remove_file.result (g.D.Disk.state c.args.disk.now) (g.D.Disk.state c.doom_user.new.disk) (g.D.Disk.state c.remove_file.new.disk) c.args.name.now
    (ap g.D.Disk.state (c.in_ok-doom_user.ensures.none bare).1.0) (c.remove_file.ensures.state told)

pub returns-clause-numbered : goal.returns-clause-numbered
returns-clause-numbered g c told =
    let bare = none_if _ c.in_ok-doom_user.field-0 c.in_ok-doom_user.ensures.some c.if-branch.false in
    gone_numbered c.remove_file.result (g.D.Disk.state c.args.disk.now) (g.D.Disk.state c.doom_user.new.disk) (g.D.Disk.state c.remove_file.new.disk) c.args.name.now
    (ap g.D.Disk.state (c.in_ok-doom_user.ensures.none bare).1.0) (c.remove_file.ensures.state told)
