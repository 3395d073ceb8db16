use Rattle.std.proofs.Common.{◌<◌, ◌≤◌, length, Ok, sym, ap, subst, ◌∙◌, arith, rules}
use Rattle.std.proofs.lemmas.Result.{IfOk-from_err}
use Rattle.disk_theory.specs.Account.{IsCalm, no_sync}
use Rattle.doom_area.specs.DoomArea.{RemovesDoomed}
use Rattle.index_theory.specs.Leaves.{LeavesBeside}
use Rattle.file_handles.specs.Kept.{kept}
use Rattle.file_handles.proofs.Accounting.{calm_then, calm_then_handed_on, fault_handed_on}
use Rattle.file_handles.proofs.Closing.ClosedAll.{IsDroppedTo, all_closed, all_failed, item_at, let_go_removes, next_somehow, none_dropped, one_dropped}
use Rattle.file_handles.proofs.IndexLeft.{let_go_left, then_left}
use Rattle.file_handles.proofs.handles.Handles.close_all.Goals.{in-Some+in_ok-let_go, in_default}
use Rattle.file_handles.proofs.handles.Handles.close_all.Goals as goal

pub let_go-requires : goal.let_go-requires
let_go-requires g c told =
    let within : c.loop-object.object-index < length c.args.self.table.rows.objects = let lt = c.loop-object-test.true in let l = c.loop-object.invariant.long in omega (arith, lt, l) in
    next_somehow (g.D.Disk.state c.args.disk.now) (g.D.Disk.state c.loop-object.disk) (kept c.args.self) c.loop-object.object-index c.in-Some.object (c.requires.told told)
    (item_at (kept c.args.self) c.loop-object.object-index c.object-item.result _ within c.in-Some.is) (c.loop-object.invariant.to told)

pub returns-in_err-let_go-clause-closes : goal.returns-in_err-let_go-clause-closes
returns-in_err-let_go-clause-closes g c told =
    let within : c.loop-object.object-index < length c.args.self.table.rows.objects = let lt = c.loop-object-test.true in let l = c.loop-object.invariant.long in omega (arith, lt, l) in
    record {
      crash = λ h is. all_failed (kept c.args.self) c.loop-object.object-index c.in-Some.object c.let_go.result (g.D.Disk.state c.args.disk.now) (g.D.Disk.state c.loop-object.disk) (g.D.Disk.state c.let_go.new.disk)
          (item_at (kept c.args.self) c.loop-object.object-index c.object-item.result _ within c.in-Some.is) (c.let_go.ensures.state told) (c.loop-object.invariant.to told) h.machine h.marks is;
      closed = λ m stand. IfOk-from_err c.from_residual.result _ c.from_residual.ensures.0;
    }

pub loop-object-preserved : goal.loop-object-preserved
loop-object-preserved g c =
    let k = kept c.args.self in
    let i = c.loop-object.object-index in
    let s = g.D.Disk.state c.args.disk.now in
    let t = g.D.Disk.state c.loop-object.disk in
    let before = c.loop-object.invariant in
    let within : i < length c.args.self.table.rows.objects = let lt = c.loop-object-test.true in let l = c.loop-object.invariant.long in omega (arith, lt, l) in
    elim c.match-object.branch [
      | in-Some+in_ok-let_go w ↦ record {
        long = before.long;
        to = λ told. one_dropped k i w.in-Some.object s t (g.D.Disk.state c.match-object.disk) (item_at k i c.object-item.result _ within w.in-Some.is)
            (ap g.D.Disk.state w.disk-is ∙ w.in_ok-let_go.ensures.state told) (before.to told);
        left = λ told. then_left s t (g.D.Disk.state c.match-object.disk) (before.left told)
            (let_go_left {T = Unit {0}} (Ok tt) t (g.D.Disk.state c.match-object.disk) w.in-Some.object (ap g.D.Disk.state w.disk-is ∙ w.in_ok-let_go.ensures.state told));
        gone = λ told. let_go_removes {T = Unit {0}} (Ok tt) w.in-Some.object s t (g.D.Disk.state c.match-object.disk) (before.gone told) (ap g.D.Disk.state w.disk-is ∙ w.in_ok-let_go.ensures.state told);
        calm = subst (IsCalm g.D.Disk no_sync c.args.disk.now) (sym w.disk-is) (calm_then g.D.Disk _ _ _ before.calm w.in_ok-let_go.ensures.disk.account);
        looks = λ told. ap (λ d. (g.D.Disk.counts d).entry_reads) w.disk-is ∙ w.in_ok-let_go.ensures.disk.no_entry told ∙ before.looks told;
      }
      | in_default w ↦ record {
        long = before.long;
        to = λ told. none_dropped k i s (g.D.Disk.state c.match-object.disk) (item_at k i c.object-item.result _ within w.in_default.is)
            (subst (λ d. IsDroppedTo k i s (g.D.Disk.state d)) (sym w.disk-is) (before.to told));
        left = λ told. subst (λ d. LeavesBeside s (g.D.Disk.state d)) (sym w.disk-is) (before.left told);
        gone = λ told. subst (λ d. RemovesDoomed s (g.D.Disk.state d)) (sym w.disk-is) (before.gone told);
        calm = subst (IsCalm g.D.Disk no_sync c.args.disk.now) (sym w.disk-is) before.calm;
        looks = λ told. ap (λ d. (g.D.Disk.counts d).entry_reads) w.disk-is ∙ before.looks told;
      }
    ]

pub returns-clause-closes : goal.returns-clause-closes
returns-clause-closes g c told =
    let all : length c.args.self.table.rows.objects ≤ c.loop-object.object-index = let l = c.loop-object.invariant.long in let a = c.loop-object-test.false in omega (arith, l, a) in
    all_closed (g.D.Disk.state c.args.disk.now) (g.D.Disk.state c.loop-object.disk) (kept c.args.self) c.loop-object.object-index all (c.loop-object.invariant.to told)

pub returns-in_err-let_go-clause-index : goal.returns-in_err-let_go-clause-index
returns-in_err-let_go-clause-index g c told =
    then_left (g.D.Disk.state c.args.disk.now) (g.D.Disk.state c.loop-object.disk) (g.D.Disk.state c.let_go.new.disk) (c.loop-object.invariant.left told)
    (let_go_left c.let_go.result _ _ c.in-Some.object (c.let_go.ensures.state told))

pub returns-clause-index : goal.returns-clause-index
returns-clause-index g c told = c.loop-object.invariant.left told

pub returns-in_err-let_go-clause-disk : goal.returns-in_err-let_go-clause-disk
returns-in_err-let_go-clause-disk g c = record {
  account = calm_then_handed_on g.D.Disk c.let_go.result c.in_err-let_go.field-0.0 c.from_residual.result _ _ _ c.in_err-let_go.was c.from_residual.ensures.1 c.loop-object.invariant.calm c.let_go.ensures.disk.account;
  change = λ failed.
      c.let_go.ensures.disk.change (sym (fault_handed_on c.let_go.result c.in_err-let_go.field-0.0 c.from_residual.result c.in_err-let_go.was c.from_residual.ensures.1) ∙ failed);
  no_entry = λ told. c.let_go.ensures.disk.no_entry told ∙ c.loop-object.invariant.looks told;
}

pub returns-clause-disk : goal.returns-clause-disk
returns-clause-disk g c = record {
  account = search rules;
  change = search rules;
  no_entry = λ told. c.loop-object.invariant.looks told;
}

pub returns-in_err-let_go-clause-removes : goal.returns-in_err-let_go-clause-removes
returns-in_err-let_go-clause-removes g c told =
    let_go_removes c.let_go.result c.in-Some.object (g.D.Disk.state c.args.disk.now) (g.D.Disk.state c.loop-object.disk) (g.D.Disk.state c.let_go.new.disk) (c.loop-object.invariant.gone told) (c.let_go.ensures.state told)

pub returns-clause-removes : goal.returns-clause-removes
returns-clause-removes g c told = c.loop-object.invariant.gone told
