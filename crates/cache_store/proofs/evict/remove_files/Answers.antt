use Rattle.std.proofs.Common.{◌+◌, List, arith, drop, drop_of_length-le, rules, subst, sym}
use Rattle.std.proofs.lemmas.List.{drop_more}
use Rattle.cache_base.specs.declared.name.Name.{Name}
use Rattle.cache_store.specs.Evicting.{AreUnused, HoldsFiles}
use Rattle.cache_store.proofs.Performing.CalmAccounts.{fault_handed_on}
use Rattle.cache_store.proofs.Clearing.NamesDoomed.{Completes, next_done, next_fails, none_left, rest_holds, rest_unused}
use Rattle.file_handles.specs.Cache.{cache}
use Rattle.handle_table.specs.Kept.{Kept}
use Rattle.file_handles.specs.Kept.{kept}
use Rattle.file_handles.proofs.TakingSteps.{one_takes, takes_then}
use Rattle.file_handles.proofs.UnsyncedLaws.{then_unsynced}
use Rattle.index_theory.proofs.LeavesLaws.{both_leave_beside}
use Rattle.cache_store.proofs.evict.remove_files.Goals as goal

pub evict-requires-clause-unused : goal.evict-requires-clause-unused
evict-requires-clause-unused g c =
    let names = c.args.names.now in
    let i = c.loop-name.name-index in
    let left = subst (AreUnused (kept c.loop-name.handles)) (drop_more names i _ c.loop-name-test.true) c.loop-name.invariant.unused in
    left.unused.0

pub evict-requires-clause-told : goal.evict-requires-clause-told
evict-requires-clause-told g c = λ told.
    let names = c.args.names.now in
    let i = c.loop-name.name-index in
    let left = subst (HoldsFiles (cache g.D.Disk c.loop-name.handles c.loop-name.disk)) (drop_more names i _ c.loop-name-test.true) (c.loop-name.invariant.told told) in
    (left.stands, left.files.0)

pub loop-name-preserved : goal.loop-name-preserved
loop-name-preserved g c =
    let names = c.args.names.now in
    let i = c.loop-name.name-index in
    let first = drop_more names i _ c.loop-name-test.true in
    let now = cache g.D.Disk c.loop-name.handles c.loop-name.disk in
    let next = cache g.D.Disk c.evict.new.self c.evict.new.disk in
    let before = cache g.D.Disk c.args.handles.now c.args.disk.now in
    let unused = subst (AreUnused (kept c.loop-name.handles)) first c.loop-name.invariant.unused in
    record {
      unused = subst (λ (k : Kept). AreUnused k (drop (i + 1) names)) (sym c.in_ok-evict.ensures.kept) (rest_unused _ (drop (i + 1) names) (kept c.loop-name.handles) unused);
      told = λ told. rest_holds _ now next _ c.in_ok-evict.ensures.kept (c.in_ok-evict.ensures.evicts told) (drop (i + 1) names) unused
          (subst (HoldsFiles now) first (c.loop-name.invariant.told told));
      completes = λ told. next_done _ (drop (i + 1) names) names before now next (subst (λ (ns : List Name). Completes ns names before now) first (c.loop-name.invariant.completes told))
          _ (c.in_ok-evict.ensures.evicts told);
      kept = search rules;
      index = λ told. both_leave_beside _ _ _ (c.loop-name.invariant.index told) (c.evict.ensures.index told);
      takes = λ told. takes_then _ _ _ (c.loop-name.invariant.takes told) (one_takes _ _ _ (c.evict.ensures.takes told));
      unsynced = λ told. then_unsynced _ _ _ (c.loop-name.invariant.unsynced told) (c.evict.ensures.unsynced told);
      calm = search rules;
      looks = search rules;
    }

pub returns-in_err-evict-clause-dooms : goal.returns-in_err-evict-clause-dooms
returns-in_err-evict-clause-dooms g c = λ told.
    let names = c.args.names.now in
    let i = c.loop-name.name-index in
    let now = cache g.D.Disk c.loop-name.handles c.loop-name.disk in
    let next = cache g.D.Disk c.evict.new.self c.evict.new.disk in
    let before = cache g.D.Disk c.args.handles.now c.args.disk.now in
    next_fails _ (drop (i + 1) names) names before now next
    (subst (λ (ns : List Name). Completes ns names before now) (drop_more names i _ c.loop-name-test.true) (c.loop-name.invariant.completes told))
    c.evict.result (c.evict.ensures.evicts told) c.from_residual.result _ c.from_residual.ensures.1

pub returns-in_err-evict-clause-account : goal.returns-in_err-evict-clause-account
returns-in_err-evict-clause-account g c =
    fault_handed_on g.D.Disk _ c.from_residual.result c.args.disk.now c.loop-name.disk c.evict.new.disk c.from_residual.ensures.1 c.loop-name.invariant.calm c.in_err-evict.ensures.account

pub returns-clause-dooms : goal.returns-clause-dooms
returns-clause-dooms g c = λ told.
    let names = c.args.names.now in
    let i = c.loop-name.name-index in
    none_left names (drop i names) (cache g.D.Disk c.args.handles.now c.args.disk.now) (cache g.D.Disk c.loop-name.handles c.loop-name.disk)
    (drop_of_length-le names (let past = c.loop-name-test.false in omega (arith, past))) (c.loop-name.invariant.completes told)

pub returns-in_err-evict-clause-unsynced : goal.returns-in_err-evict-clause-unsynced
returns-in_err-evict-clause-unsynced g c = λ told. then_unsynced _ _ _ (c.loop-name.invariant.unsynced told) (c.evict.ensures.unsynced told)

pub returns-in_err-evict-clause-index : goal.returns-in_err-evict-clause-index
returns-in_err-evict-clause-index g c = λ told. both_leave_beside _ _ _ (c.loop-name.invariant.index told) (c.evict.ensures.index told)

pub returns-in_err-evict-clause-takes : goal.returns-in_err-evict-clause-takes
returns-in_err-evict-clause-takes g c = λ told. takes_then _ _ _ (c.loop-name.invariant.takes told) (one_takes _ _ _ (c.evict.ensures.takes told))
