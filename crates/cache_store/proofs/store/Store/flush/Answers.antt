use Rattle.std.proofs.Common.{◌∙◌, ap, arith, inl, refl, rules, subst, sym}
use Rattle.disk_theory.specs.Account.{FailsInChange}
use Rattle.disk_theory.specs.State.{settled}
use Rattle.index_theory.specs.Leaves.{LeavesIndex}
use Rattle.index_theory.proofs.LeavesLaws.{sync_leaves_index}
use Rattle.index_theory.specs.Unclean.{IsUnclean}
use Rattle.file_handles.specs.Kept.{kept}
use Rattle.cache_store.specs.Faults.{ending}
use Rattle.cache_store.specs.Session.{session}
use Rattle.cache_store.proofs.Records.IndexAchieves.{fails_sparing, spared_in_same}
use Rattle.cache_store.proofs.Records.IndexWrites.{flush_achieves, synced_unclean}
use Rattle.cache_store.proofs.Performing.CalmAccounts.{sync_reads, sync_stops}
use Rattle.cache_store.proofs.Performing.Stays.{change_handed}
use Rattle.cache_store.proofs.Clearing.ClearPart.{spared_keeps, then_same, then_synced}
use Rattle.cache_store.proofs.store.Store.flush.Goals as goal

pub returns-in_err-refresh-clause-does : goal.returns-in_err-refresh-clause-does
returns-in_err-refresh-clause-does g c = λ told.
    fails_sparing _ c.from_residual.result _ (session g.D.Disk c.args.self.now c.args.disk.now) _ c.from_residual.ensures.1 (c.in_err-refresh.ensures.entries told)

pub returns-in_err-sync-clause-does : goal.returns-in_err-sync-clause-does
returns-in_err-sync-clause-does g c = λ told.
    fails_sparing _ c.from_residual-in_err-sync.result _ (session g.D.Disk c.args.self.now c.args.disk.now) _ c.from_residual-in_err-sync.ensures.1
    (spared_in_same _ _ _ (c.in_ok-refresh.ensures.entries told) (c.in_err-sync.ensures.state told))

pub returns-clause-does : goal.returns-clause-does
returns-clause-does g c = λ told.
    flush_achieves (kept c.args.self.now.handles) c.args.self.now.moment (g.D.Disk.state c.args.disk.now) (g.D.Disk.state c.refresh.new.disk) c.args.self.now.index c.refresh.new.index
    (c.in_ok-refresh.ensures.entries told) (c.in_ok-refresh.ensures.holds told) (record { records = c.in_ok-refresh.ensures.records; seen = c.in_ok-refresh.ensures.seen }) c.in_ok-refresh.ensures.update
    (g.met.D.Disk.sound c.refresh.new.disk told) (g.D.Disk.state c.sync.new.self) (c.in_ok-sync.ensures.state told)

pub returns-clause-unclean : goal.returns-clause-unclean
returns-clause-unclean g c = λ told.
    synced_unclean _ _ _ (c.in_ok-sync.ensures.state told) (c.in_ok-refresh.ensures.unclean told) c.args.self.now.index.map (c.requires.told told).1.matches.holds

pub returns-clause-index : goal.returns-clause-index
returns-clause-index g c = λ spares told.
    subst (LeavesIndex (g.D.Disk.state c.args.disk.now)) (sym (c.in_ok-sync.ensures.state told ∙ ap settled (c.in_ok-refresh.ensures.unwritten spares told)))
    (sync_leaves_index (g.D.Disk.state c.args.disk.now) (g.met.D.Disk.sound c.args.disk.now told))

pub returns-clause-disk : goal.returns-clause-disk
returns-clause-disk g c = record {
  account = record { cause = search rules; went_on = search rules; stops = search rules; last = search rules; syncs = search rules };
  change = search rules;
  no_entry = search rules;
}

pub returns-in_err-sync-clause-disk : goal.returns-in_err-sync-clause-disk
returns-in_err-sync-clause-disk g c = record {
  account = record {
    cause = search rules;
    went_on = search rules;
    stops = λ told. sync_stops (g.D.Disk.counts c.args.disk.now) (g.D.Disk.counts c.refresh.new.disk) (g.D.Disk.counts c.sync.new.self) c.sync.result (c.sync.ensures.counts told) (c.in_ok-refresh.ensures.disk.account.went_on refl told);
    last = λ failed told.
        let change : FailsInChange g.D.Disk (ending c.from_residual-in_err-sync.result) c.sync.new.self = search rules in
        inl (change failed told);
    syncs = search rules;
  };
  change = search rules;
  no_entry = λ told. sync_reads (g.D.Disk.counts c.args.disk.now) (g.D.Disk.counts c.refresh.new.disk) (g.D.Disk.counts c.sync.new.self) c.sync.result (c.sync.ensures.counts told) (c.in_ok-refresh.ensures.disk.no_entry told);
}

pub returns-in_err-refresh-clause-disk : goal.returns-in_err-refresh-clause-disk
returns-in_err-refresh-clause-disk g c = record {
  account = record {
    cause = search rules;
    went_on = search rules;
    stops = search rules;
    last = search rules;
    syncs = λ told. let made = c.in_err-refresh.ensures.disk.account.syncs told in omega (arith, made);
  };
  change = change_handed g.D.Disk c.from_residual.result c.in_err-refresh.field-0.0 c.refresh.new.disk c.from_residual.ensures.1 c.in_err-refresh.ensures.disk.change;
  no_entry = search rules;
}

pub returns-clause-flushes : goal.returns-clause-flushes
returns-clause-flushes g c = λ told. record {
  ended = λ none. (g.D.Disk.state c.refresh.new.disk, (c.in_ok-refresh.ensures.written none told, c.in_ok-sync.ensures.state told));
  going_on = λ left. c.in_ok-sync.ensures.state told ∙ ap settled (c.in_ok-refresh.ensures.unwritten (λ none. absurd (left none)) told);
}

pub returns-in_err-refresh-clause-at_clear : goal.returns-in_err-refresh-clause-at_clear
returns-in_err-refresh-clause-at_clear g c = λ told.
    spared_keeps (g.D.Disk.state c.args.disk.now) (g.D.Disk.state c.refresh.new.disk) (c.in_err-refresh.ensures.entries told (c.requires.told told).1.matches.holds.apart)

pub returns-in_err-sync-clause-at_clear : goal.returns-in_err-sync-clause-at_clear
returns-in_err-sync-clause-at_clear g c = λ told.
    then_same (g.D.Disk.state c.args.disk.now) (g.D.Disk.state c.refresh.new.disk) (g.D.Disk.state c.sync.new.self)
    (spared_keeps (g.D.Disk.state c.args.disk.now) (g.D.Disk.state c.refresh.new.disk) (c.in_ok-refresh.ensures.entries told (c.requires.told told).1.matches.holds.apart)) (c.in_err-sync.ensures.state told)

pub returns-clause-at_clear : goal.returns-clause-at_clear
returns-clause-at_clear g c = λ told.
    then_synced (g.D.Disk.state c.args.disk.now) (g.D.Disk.state c.refresh.new.disk) (g.D.Disk.state c.sync.new.self)
    (spared_keeps (g.D.Disk.state c.args.disk.now) (g.D.Disk.state c.refresh.new.disk) (c.in_ok-refresh.ensures.entries told (c.requires.told told).1.matches.holds.apart)) (c.in_ok-sync.ensures.state told)

pub returns-in_err-sync-clause-unclean : goal.returns-in_err-sync-clause-unclean
returns-in_err-sync-clause-unclean g c = λ told.
    let holds = (c.requires.told told).1.matches.holds in
    subst IsUnclean (sym (c.in_err-sync.ensures.state told)) (c.in_ok-refresh.ensures.unclean told holds.apart holds.unclean)
