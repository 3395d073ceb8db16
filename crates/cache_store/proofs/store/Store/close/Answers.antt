use Rattle.cache_theory.proofs.CrashImages.Crashes.{safe_is_crash_safe}
use Rattle.cache_store.specs.Session.{session}
use Rattle.cache_store.proofs.Sessions.Closed.{closes_failed, failed_honestly, images_honest, is_honest, left_honest, shut, spared_crash}
use Rattle.cache_store.proofs.Sessions.ClosedInUse.{closed_in_use, not_ended, synced_done, synced_left}
use Rattle.cache_store.proofs.Clearing.ClearPart.{opened_keeps}
use Rattle.std.proofs.Common.{rules}
use Rattle.cache_store.proofs.store.Store.close.Goals as goal

pub returns-in_err-closed-clause-crash : goal.returns-in_err-closed-clause-crash
returns-in_err-closed-clause-crash g c = λ told h is. safe_is_crash_safe (g.D.Disk.state c.close_all-closed.new.disk) h.marks ((c.close_all-closed.ensures.closes told).crash h is.stands)

pub returns-in_err-closed-clause-honest : goal.returns-in_err-closed-clause-honest
returns-in_err-closed-clause-honest g c = λ told.
    let before = session g.D.Disk c.args.self c.args.disk.now in
    let d = g.D.Disk.state c.close_all-closed.new.disk in
    failed_honestly c.from_residual.result _ before d c.from_residual.ensures.1 (λ m is tells. left_honest before d (c.close_all-closed.ensures.index told).index m is)

pub returns-in_err-close_index-clause-closes : goal.returns-in_err-close_index-clause-closes
returns-in_err-close_index-clause-closes g c = λ told.
    let before = session g.D.Disk c.args.self c.args.disk.now in
    let d = g.D.Disk.state c.close_all-closed.new.disk in
    let t = g.D.Disk.state c.close_index.new.disk in
    closes_failed c.from_residual-in_err-close_index.result _ before t c.from_residual-in_err-close_index.ensures.1
    (spared_crash before d (c.close_all-closed.ensures.index told).index t (c.close_index.ensures.entries told) c.close_all-closed.result (c.close_all-closed.ensures.closes told))

pub returns-in_err-close_index-clause-crash : goal.returns-in_err-close_index-clause-crash
returns-in_err-close_index-clause-crash g c = λ told h is.
    let before = session g.D.Disk c.args.self c.args.disk.now in
    let d = g.D.Disk.state c.close_all-closed.new.disk in
    let t = g.D.Disk.state c.close_index.new.disk in
    safe_is_crash_safe t h.marks
    (spared_crash before d (c.close_all-closed.ensures.index told).index t (c.close_index.ensures.entries told) c.close_all-closed.result (c.close_all-closed.ensures.closes told) h is)

pub returns-in_err-close_index-clause-honest : goal.returns-in_err-close_index-clause-honest
returns-in_err-close_index-clause-honest g c = λ told.
    let before = session g.D.Disk c.args.self c.args.disk.now in
    let d = g.D.Disk.state c.close_all-closed.new.disk in
    let t = g.D.Disk.state c.close_index.new.disk in
    failed_honestly c.from_residual-in_err-close_index.result _ before t c.from_residual-in_err-close_index.ensures.1 (λ m is tells.
    images_honest before d (c.close_all-closed.ensures.index told).index t c.ended.result c.ended.ensures.ended (c.close_index.ensures.honest told) m is tells
    ((c.in_ok-closed.ensures.closes told).closed m is.stands))

pub returns-clause-closes : goal.returns-clause-closes
returns-clause-closes g c = λ told.
    let before = session g.D.Disk c.args.self c.args.disk.now in
    let d = g.D.Disk.state c.close_all-closed.new.disk in
    let t = g.D.Disk.state c.close_index.new.disk in
    record {
      shut = λ m is. shut before d (c.close_all-closed.ensures.index told).index t (c.close_index.ensures.entries told) (c.close_all-closed.ensures.index told).mark (c.in_ok-close_index.ensures.quiet told) m is ((c.in_ok-closed.ensures.closes told).closed m is.stands);
      crash = spared_crash before d (c.close_all-closed.ensures.index told).index t (c.close_index.ensures.entries told) c.close_all-closed.result (c.close_all-closed.ensures.closes told);
    }

pub returns-clause-crash : goal.returns-clause-crash
returns-clause-crash g c = λ told h is. safe_is_crash_safe (g.D.Disk.state c.close_index.new.disk) h.marks ((returns-clause-closes g c told).crash h is)

pub returns-clause-honest : goal.returns-clause-honest
returns-clause-honest g c = λ told.
    let before = session g.D.Disk c.args.self c.args.disk.now in
    let d = g.D.Disk.state c.close_all-closed.new.disk in
    let t = g.D.Disk.state c.close_index.new.disk in
    record {
      images = λ m is tells. images_honest before d (c.close_all-closed.ensures.index told).index t c.ended.result c.ended.ensures.ended (c.close_index.ensures.honest told) m is tells
          ((c.in_ok-closed.ensures.closes told).closed m is.stands);
      honest = λ m is tells. is_honest before d (c.close_all-closed.ensures.index told).index t c.ended.result c.ended.ensures.ended (λ e. c.in_ok-close_index.ensures.trusted e told) (λ e. c.close_index.ensures.unclean e told) m is tells
          ((c.in_ok-closed.ensures.closes told).closed m is.stands);
    }

pub returns-clause-journal : goal.returns-clause-journal
returns-clause-journal g c = λ told.
    let d = c.close_all-closed.new.disk in
    closed_in_use c.args.self.index c.args.self.moment (g.D.Disk.state c.args.disk.now) (g.D.Disk.state d) (g.D.Disk.state c.close_index.new.disk) c.ended.result c.ended.ensures.ended (g.met.D.Disk.sound d told)
    (c.close_all-closed.ensures.index told).index (c.requires.told told).1.matches.holds.files c.close_index.ensures.known (λ e. c.in_ok-close_index.ensures.closed e told)

pub returns-in_err-close_index-clause-spares : goal.returns-in_err-close_index-clause-spares
returns-in_err-close_index-clause-spares g c = λ left told.
    let d = g.D.Disk.state c.close_all-closed.new.disk in
    synced_left (g.D.Disk.state c.args.disk.now) d (g.D.Disk.state c.close_index.new.disk) c.close_index.result (g.met.D.Disk.sound c.close_all-closed.new.disk told)
    (c.close_all-closed.ensures.index told).index (c.close_index.ensures.synced (not_ended c.ended.result c.args.self.index.update c.ended.ensures.ended left) told)

pub returns-clause-spares : goal.returns-clause-spares
returns-clause-spares g c = λ left told.
    let d = g.D.Disk.state c.close_all-closed.new.disk in
    synced_left (g.D.Disk.state c.args.disk.now) d (g.D.Disk.state c.close_index.new.disk) c.close_index.result (g.met.D.Disk.sound c.close_all-closed.new.disk told)
    (c.close_all-closed.ensures.index told).index (c.close_index.ensures.synced (not_ended c.ended.result c.args.self.index.update c.ended.ensures.ended left) told)

pub returns-clause-whole : goal.returns-clause-whole
returns-clause-whole g c = λ told. record {
  removed = g.D.Disk.state c.close_all-closed.new.disk;
  removes = c.close_all-closed.ensures.removes told;
  whole = λ none. c.in_ok-close_index.ensures.closed (c.ended.ensures.ended.1 none) told;
  synced = λ left. synced_done (g.D.Disk.state c.close_all-closed.new.disk) (g.D.Disk.state c.close_index.new.disk) c.close_index.result c.in_ok-close_index.was
      (c.close_index.ensures.synced (not_ended c.ended.result c.args.self.index.update c.ended.ensures.ended left) told);
}

-- ---- what a crash may leave at `clear`

pub returns-in_err-closed-clause-at_clear : goal.returns-in_err-closed-clause-at_clear
returns-in_err-closed-clause-at_clear g c = λ told. (c.close_all-closed.ensures.index told).clear

pub returns-in_err-close_index-clause-at_clear : goal.returns-in_err-close_index-clause-at_clear
returns-in_err-close_index-clause-at_clear g c = λ told.
    opened_keeps (g.D.Disk.state c.args.disk.now) (g.D.Disk.state c.close_all-closed.new.disk) (g.D.Disk.state c.close_index.new.disk) (c.close_all-closed.ensures.index told) (c.requires.told told).1.matches.holds.apart (c.close_index.ensures.entries told)

pub returns-clause-at_clear : goal.returns-clause-at_clear
returns-clause-at_clear g c = λ told.
    opened_keeps (g.D.Disk.state c.args.disk.now) (g.D.Disk.state c.close_all-closed.new.disk) (g.D.Disk.state c.close_index.new.disk) (c.close_all-closed.ensures.index told) (c.requires.told told).1.matches.holds.apart (c.close_index.ensures.entries told)

pub returns-in_err-closed-clause-closes : goal.returns-in_err-closed-clause-closes
returns-in_err-closed-clause-closes g c = λ told.
    let before = session g.D.Disk c.args.self c.args.disk.now in
    let d = g.D.Disk.state c.close_all-closed.new.disk in
    closes_failed c.from_residual.result _ before d c.from_residual.ensures.1 (λ h is. (c.close_all-closed.ensures.closes told).crash h is.stands)

pub returns-in_err-close_index-clause-disk : goal.returns-in_err-close_index-clause-disk
returns-in_err-close_index-clause-disk g c = record {
  account = record { cause = search rules; went_on = search rules; stops = search rules; last = search rules; syncs = search rules };
  change = search rules;
  no_entry = search rules;
}
