use Rattle.std.proofs.Common.{◌+◌, ◌∙◌, Err, List, arith, drop, drop_of_length-le, rules, subst}
use Rattle.std.proofs.lemmas.List.{drop_more}
use Rattle.cache_base.specs.declared.name.Name.{Name}
use Rattle.cache_store.specs.Clearing.{HoldsNames}
use Rattle.cache_store.proofs.Clearing.ClearPart.{in_order_next, in_order_stops}
use Rattle.cache_store.proofs.Clearing.HeldDoomed.{dooms_done, dooms_failed, handed_account, handed_change, rest_held}
use Rattle.cache_store.proofs.Clearing.NamesDoomed.{Completes, next_done, next_fails, none_left}
use Rattle.file_handles.specs.Cache.{cache}
use Rattle.file_handles.proofs.Accounting.{calm_then}
use Rattle.file_handles.proofs.Dooming.MarkLeft.{then_marked}
use Rattle.index_theory.proofs.LeavesLaws.{both_leave_beside}
use Rattle.cache_store.proofs.clear.doom_names.Goals as goal

pub doom_name-requires : goal.doom_name-requires
doom_name-requires g c = record {
  told = λ told.
      let names = c.args.names.now in
      let i = c.loop-name.name-index in
      let left = subst (HoldsNames (cache g.D.Disk c.loop-name.handles c.loop-name.disk)) (drop_more names i _ c.loop-name-test.true) (c.loop-name.invariant.told told) in
      (left.stands, left.held.0);
}

pub loop-name-preserved : goal.loop-name-preserved
loop-name-preserved g c =
    let names = c.args.names.now in
    let i = c.loop-name.name-index in
    let first = drop_more names i _ c.loop-name-test.true in
    let now = cache g.D.Disk c.loop-name.handles c.loop-name.disk in
    let next = cache g.D.Disk c.doom_name.new.self c.doom_name.new.disk in
    let before = cache g.D.Disk c.args.handles.now c.args.disk.now in
    record {
      told = λ told. rest_held _ now next (dooms_done _ (c.in-Ok.ensures.dooms told)) (drop (i + 1) names) (subst (HoldsNames now) first (c.loop-name.invariant.told told));
      completes = λ told. next_done _ (drop (i + 1) names) names before now next (subst (λ (ns : List Name). Completes ns names before now) first (c.loop-name.invariant.completes told))
          tt (dooms_done _ (c.in-Ok.ensures.dooms told));
      chunks = c.doom_name.ensures.aside.chunks ∙ c.loop-name.invariant.chunks;
      mark = λ told. then_marked (g.D.Disk.state c.args.disk.now) (g.D.Disk.state c.loop-name.disk) (g.D.Disk.state c.doom_name.new.disk) (c.loop-name.invariant.mark told) (c.doom_name.ensures.aside.mark told);
      takes = λ told. in_order_next names i _ c.loop-name-test.true (g.D.Disk.state c.args.disk.now) (g.D.Disk.state c.loop-name.disk) (g.D.Disk.state c.doom_name.new.disk) (c.loop-name.invariant.takes told) (c.doom_name.ensures.aside.takes told);
      index = λ told. both_leave_beside _ _ _ (c.loop-name.invariant.index told) (c.doom_name.ensures.aside.index told);
      calm = calm_then g.D.Disk c.args.disk.now c.loop-name.disk c.doom_name.new.disk c.loop-name.invariant.calm c.in-Ok.ensures.aside.disk.account;
      looks = λ told. c.doom_name.ensures.aside.disk.no_entry told ∙ c.loop-name.invariant.looks told;
    }

pub returns-in-Err-clause-dooms : goal.returns-in-Err-clause-dooms
returns-in-Err-clause-dooms g c = λ told.
    let names = c.args.names.now in
    let i = c.loop-name.name-index in
    let now = cache g.D.Disk c.loop-name.handles c.loop-name.disk in
    let next = cache g.D.Disk c.doom_name.new.self c.doom_name.new.disk in
    let before = cache g.D.Disk c.args.handles.now c.args.disk.now in
    next_fails _ (drop (i + 1) names) names before now next
    (subst (λ (ns : List Name). Completes ns names before now) (drop_more names i _ c.loop-name-test.true) (c.loop-name.invariant.completes told))
    (Err c.disk_fault.result) (dooms_failed c.in-Err.fault c.disk_fault.result (c.in-Err.ensures.dooms told)) (Err c.disk_fault.result) (λ d. Unit {0}) tt

pub returns-in-Err-clause-disk : goal.returns-in-Err-clause-disk
returns-in-Err-clause-disk g c = record {
  account = handed_account g.D.Disk c.in-Err.fault c.disk_fault.result c.disk_fault.ensures c.in-Err.ensures.aside.refused c.args.disk.now c.loop-name.disk c.doom_name.new.disk c.loop-name.invariant.calm c.in-Err.ensures.aside.disk.account;
  change = handed_change g.D.Disk c.in-Err.fault c.disk_fault.result c.disk_fault.ensures c.in-Err.ensures.aside.refused c.doom_name.new.disk c.in-Err.ensures.aside.disk.change;
  no_entry = λ told. c.doom_name.ensures.aside.disk.no_entry told ∙ c.loop-name.invariant.looks told;
}

pub returns-clause-dooms : goal.returns-clause-dooms
returns-clause-dooms g c = λ told.
    let names = c.args.names.now in
    let i = c.loop-name.name-index in
    none_left names (drop i names) (cache g.D.Disk c.args.handles.now c.args.disk.now) (cache g.D.Disk c.loop-name.handles c.loop-name.disk)
    (drop_of_length-le names (let past = c.loop-name-test.false in omega (arith, past))) (c.loop-name.invariant.completes told)

pub returns-in-Err-clause-takes : goal.returns-in-Err-clause-takes
returns-in-Err-clause-takes g c = λ told.
    let names = c.args.names.now in
    let i = c.loop-name.name-index in
    in_order_stops names (i + 1) (g.D.Disk.state c.args.disk.now) (g.D.Disk.state c.doom_name.new.disk)
    (in_order_next names i _ c.loop-name-test.true (g.D.Disk.state c.args.disk.now) (g.D.Disk.state c.loop-name.disk) (g.D.Disk.state c.doom_name.new.disk) (c.loop-name.invariant.takes told) (c.doom_name.ensures.aside.takes told))

pub returns-clause-takes : goal.returns-clause-takes
returns-clause-takes g c = λ told. in_order_stops c.args.names.now c.loop-name.name-index (g.D.Disk.state c.args.disk.now) (g.D.Disk.state c.loop-name.disk) (c.loop-name.invariant.takes told)

pub returns-in-Err-clause-index : goal.returns-in-Err-clause-index
returns-in-Err-clause-index g c = λ told. both_leave_beside _ _ _ (c.loop-name.invariant.index told) (c.doom_name.ensures.aside.index told)
