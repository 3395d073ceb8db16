use Rattle.std.proofs.Common.{◌≡◌, List, Err, refl, subst, sym}
use Rattle.cache_theory.specs.Command.Command.{Rebuild}
use Rattle.cache_store.specs.Faults.{of_disk}
use Rattle.disk_theory.specs.State.{State}
use Rattle.index_record.specs.declared.record.IndexRecord.{IndexRecord}
use Rattle.startup_read.specs.Writing.{WritesIndex}
use Rattle.index_theory.specs.Ever.{entries_on}
use Rattle.file_handles.specs.Kept.{kept}
use Rattle.memory_index.specs.Records.{TellsOf}
use Rattle.cache_store.specs.Session.{session}
use Rattle.cache_store.proofs.Records.IndexAchieves.{fails_sparing, spared_in_same, spares_from, spares_same}
use Rattle.cache_store.proofs.Records.IndexWrites.{rebuild_achieves, rebuild_outcome, rebuilds, synced_unclean, unclean_from, written_records}
use Rattle.cache_store.proofs.Performing.Stays.{noted_disk}
use Rattle.cache_store.proofs.Clearing.ClearPart.{same_keeps, spared_keeps, then_same, then_synced}
use Rattle.cache_store.proofs.store.Store.rebuild.Goals as goal

pub returns-in-Err-clause-does : goal.returns-in-Err-clause-does
returns-in-Err-clause-does g c = λ told.
    fails_sparing Rebuild (Err c.look_fault.result) (λ f. f ≡ of_disk c.in-Err.fault) (session g.D.Disk c.args.self.now c.args.disk.now) _ c.look_fault.ensures.fault
    (λ apart. spares_same (g.D.Disk.state c.args.disk.now) (g.D.Disk.state c.scan.new.disk) (c.in-Err.ensures.looks.state told))

pub returns-in-Err-clause-faulted : goal.returns-in-Err-clause-faulted
returns-in-Err-clause-faulted g c = noted_disk c.in-Err.fault c.look_fault.result c.look_fault.new.faulting c.look_fault.ensures.fault c.look_fault.ensures.faulting

pub returns-in_err-write_index-clause-does : goal.returns-in_err-write_index-clause-does
returns-in_err-write_index-clause-does g c = λ told.
    fails_sparing _ c.from_residual.result _ (session g.D.Disk c.args.self.now c.args.disk.now) _ c.from_residual.ensures.1
    (spares_from _ _ _ (c.in-Ok.ensures.looks.state told) (c.in_err-write_index.ensures.entries told))

pub returns-in_err-sync-clause-does : goal.returns-in_err-sync-clause-does
returns-in_err-sync-clause-does g c = λ told.
    fails_sparing _ c.from_residual-in_err-sync.result _ (session g.D.Disk c.args.self.now c.args.disk.now) _ c.from_residual-in_err-sync.ensures.1
    (spared_in_same _ _ _ (spares_from _ _ _ (c.in-Ok.ensures.looks.state told) (c.in_ok-write_index.ensures.entries told)) (c.in_err-sync.ensures.state told))

pub returns-clause-does : goal.returns-clause-does
returns-clause-does g c = λ told.
    let s = g.D.Disk.state c.args.disk.now in
    let u = g.D.Disk.state c.write_index.new.disk in
    let looked = c.in-Ok.ensures.looks.state told in
    rebuild_achieves (kept c.args.self.now.handles) c.args.self.now.moment s u (g.D.Disk.state c.sync.new.self) c.args.self.now.index c.in-Ok.index _
    (rebuilds s (g.D.Disk.state c.scan.new.disk) u c.args.self.now.moment c.in-Ok.index _ looked (record {
      ended = c.in-Ok.ensures.rest;
      tells = subst (λ (t : State). TellsOf (entries_on t) c.in-Ok.index) (sym looked) (c.in-Ok.ensures.tells told);
      same = written_records _ _ c.in_ok-write_index.ensures.map;
      rest = refl;
      written = c.in_ok-write_index.ensures.written told;
      entries = c.in_ok-write_index.ensures.entries told;
      keeps = c.in_ok-write_index.ensures.keeps told;
      apart = c.in_ok-write_index.ensures.apart told;
      unclean = c.in_ok-write_index.ensures.unclean told;
    }))
    (c.in_ok-sync.ensures.state told) (g.met.D.Disk.sound c.write_index.new.disk told) c.totals.result.count c.totals.ensures.count

pub returns-clause-outcome : goal.returns-clause-outcome
returns-clause-outcome g c m = rebuild_outcome m c.totals.result.count

pub returns-clause-unclean : goal.returns-clause-unclean
returns-clause-unclean g c = λ told.
    synced_unclean _ (g.D.Disk.state c.write_index.new.disk) _ (c.in_ok-sync.ensures.state told)
    (unclean_from _ _ _ (c.in-Ok.ensures.looks.state told) (c.in_ok-write_index.ensures.unclean told)) c.args.self.now.index.map (c.requires.told told).1.matches.holds

pub returns-clause-rebuilds : goal.returns-clause-rebuilds
returns-clause-rebuilds g c = λ told.
    let u = g.D.Disk.state c.write_index.new.disk in (
      u,
      (
        subst (λ (s : State). WritesIndex c.write_index.new.map.records c.args.self.now.moment s u) (c.in-Ok.ensures.looks.state told)
            (subst (λ (rs : List IndexRecord). WritesIndex rs c.args.self.now.moment (g.D.Disk.state c.scan.new.disk) u) (sym (written_records c.in-Ok.index.map c.write_index.new.map c.in_ok-write_index.ensures.map).records) (c.in_ok-write_index.ensures.written told)),
        c.in_ok-sync.ensures.state told,
      ),
    )

pub returns-in-Err-clause-at_clear : goal.returns-in-Err-clause-at_clear
returns-in-Err-clause-at_clear g c = λ told. same_keeps (c.in-Err.ensures.looks.state told)

pub returns-in_err-write_index-clause-at_clear : goal.returns-in_err-write_index-clause-at_clear
returns-in_err-write_index-clause-at_clear g c = λ told. spared_keeps (g.D.Disk.state c.args.disk.now) (g.D.Disk.state c.write_index.new.disk) (spares_from _ _ _ (c.in-Ok.ensures.looks.state told) (c.in_err-write_index.ensures.entries told) (c.requires.told told).1.matches.holds.apart)

pub returns-in_err-sync-clause-at_clear : goal.returns-in_err-sync-clause-at_clear
returns-in_err-sync-clause-at_clear g c = λ told.
    then_same (g.D.Disk.state c.args.disk.now) (g.D.Disk.state c.write_index.new.disk) (g.D.Disk.state c.sync.new.self) (spared_keeps (g.D.Disk.state c.args.disk.now) (g.D.Disk.state c.write_index.new.disk) (spares_from _ _ _ (c.in-Ok.ensures.looks.state told) (c.in_ok-write_index.ensures.entries told) (c.requires.told told).1.matches.holds.apart)) (c.in_err-sync.ensures.state told)

pub returns-clause-at_clear : goal.returns-clause-at_clear
returns-clause-at_clear g c = λ told.
    then_synced (g.D.Disk.state c.args.disk.now) (g.D.Disk.state c.write_index.new.disk) (g.D.Disk.state c.sync.new.self) (spared_keeps (g.D.Disk.state c.args.disk.now) (g.D.Disk.state c.write_index.new.disk) (spares_from _ _ _ (c.in-Ok.ensures.looks.state told) (c.in_ok-write_index.ensures.entries told) (c.requires.told told).1.matches.holds.apart)) (c.in_ok-sync.ensures.state told)
