use Rattle.std.proofs.Common.{false, inl, inr, refl, arith}
use Rattle.cache_store.specs.Session.{open_of}
use Rattle.cache_store.proofs.Sessions.BehindOpening.{behind_opening, disk_failed, fails_in_opening}
use Rattle.cache_store.proofs.Sessions.Opened.{begun_honest, begun_safe, cleared_honest, cleared_safe, keeps_found, nothing_removed, opened_safe, opens, opens_open}
use Rattle.cache_store.proofs.Sessions.StartAlong.{begins_along, in_use_along}
use Rattle.file_handles.proofs.IndexLeft.{cleared_left}
use Rattle.cache_store.proofs.Shelves.{shelf_exists}
use Rattle.cache_store.proofs.Clearing.ClearPart.{opened_keeps}
use Rattle.index_theory.proofs.ApartLaws.{quiet_is_apart}
use Rattle.index_theory.proofs.AtClearLaws.{nothing_keeps_clear, quiet_is_clear_apart}
use Rattle.cache_store.proofs.store.Store.open.Goals as goal

pub returns-in_err-handles-clause-safe : goal.returns-in_err-handles-clause-safe
returns-in_err-handles-clause-safe g c = λ told. opened_safe (g.D.Disk.state c.args.disk.now) c.args.now

pub returns-in_err-reply-clause-safe : goal.returns-in_err-reply-clause-safe
returns-in_err-reply-clause-safe g c = λ told. opened_safe (g.D.Disk.state c.args.disk.now) c.args.now

pub returns-in_err-clear-clause-safe : goal.returns-in_err-clear-clause-safe
returns-in_err-clear-clause-safe g c = λ told. cleared_safe (g.D.Disk.state c.args.disk.now) (g.D.Disk.state c.clear.new.disk) c.args.now (c.clear.ensures.removes told)

pub returns-in_err-index-clause-safe : goal.returns-in_err-index-clause-safe
returns-in_err-index-clause-safe g c = λ told.
    begun_safe (g.D.Disk.state c.args.disk.now) (g.D.Disk.state c.clear.new.disk) (g.D.Disk.state c.begin_index.new.disk) c.args.now (g.met.D.Disk.sound c.args.disk.now told) (c.clear.ensures.removes told) (c.begin_index.ensures.entries told)

pub returns-clause-safe : goal.returns-clause-safe
returns-clause-safe g c = λ told.
    begun_safe (g.D.Disk.state c.args.disk.now) (g.D.Disk.state c.clear.new.disk) (g.D.Disk.state c.begin_index.new.disk) c.args.now (g.met.D.Disk.sound c.args.disk.now told) (c.clear.ensures.removes told) (c.begin_index.ensures.entries told)

pub returns-in_err-handles-clause-reopens : goal.returns-in_err-handles-clause-reopens
returns-in_err-handles-clause-reopens g c = λ told. keeps_found (g.D.Disk.state c.args.disk.now) (g.D.Disk.state c.args.disk.now) c.args.now (g.met.D.Disk.finite c.args.disk.now told) (returns-in_err-handles-clause-safe g c told)

pub returns-in_err-reply-clause-reopens : goal.returns-in_err-reply-clause-reopens
returns-in_err-reply-clause-reopens g c = λ told. keeps_found (g.D.Disk.state c.args.disk.now) (g.D.Disk.state c.args.disk.now) c.args.now (g.met.D.Disk.finite c.args.disk.now told) (returns-in_err-reply-clause-safe g c told)

pub returns-in_err-clear-clause-reopens : goal.returns-in_err-clear-clause-reopens
returns-in_err-clear-clause-reopens g c = λ told. keeps_found (g.D.Disk.state c.args.disk.now) (g.D.Disk.state c.clear.new.disk) c.args.now (g.met.D.Disk.finite c.args.disk.now told) (returns-in_err-clear-clause-safe g c told)

pub returns-in_err-index-clause-reopens : goal.returns-in_err-index-clause-reopens
returns-in_err-index-clause-reopens g c = λ told. keeps_found (g.D.Disk.state c.args.disk.now) (g.D.Disk.state c.begin_index.new.disk) c.args.now (g.met.D.Disk.finite c.args.disk.now told) (returns-in_err-index-clause-safe g c told)

pub returns-clause-reopens : goal.returns-clause-reopens
returns-clause-reopens g c = λ told. keeps_found (g.D.Disk.state c.args.disk.now) (g.D.Disk.state c.begin_index.new.disk) c.args.now (g.met.D.Disk.finite c.args.disk.now told) (returns-clause-safe g c told)

pub returns-in_err-handles-clause-honest : goal.returns-in_err-handles-clause-honest
returns-in_err-handles-clause-honest g c = λ told. cleared_honest (g.D.Disk.state c.args.disk.now) (g.D.Disk.state c.args.disk.now) (g.met.D.Disk.sound c.args.disk.now told) (nothing_removed (g.D.Disk.state c.args.disk.now))

pub returns-in_err-reply-clause-honest : goal.returns-in_err-reply-clause-honest
returns-in_err-reply-clause-honest g c = λ told. cleared_honest (g.D.Disk.state c.args.disk.now) (g.D.Disk.state c.args.disk.now) (g.met.D.Disk.sound c.args.disk.now told) (nothing_removed (g.D.Disk.state c.args.disk.now))

pub returns-in_err-clear-clause-honest : goal.returns-in_err-clear-clause-honest
returns-in_err-clear-clause-honest g c = λ told. cleared_honest (g.D.Disk.state c.args.disk.now) (g.D.Disk.state c.clear.new.disk) (g.met.D.Disk.sound c.args.disk.now told) (c.clear.ensures.removes told)

pub returns-in_err-index-clause-honest : goal.returns-in_err-index-clause-honest
returns-in_err-index-clause-honest g c = λ told.
    begun_honest (g.D.Disk.state c.args.disk.now) (g.D.Disk.state c.clear.new.disk) (g.D.Disk.state c.begin_index.new.disk) (g.met.D.Disk.sound c.args.disk.now told) (c.clear.ensures.removes told) (c.begin_index.ensures.honest told)

pub returns-clause-honest : goal.returns-clause-honest
returns-clause-honest g c = λ told.
    begun_honest (g.D.Disk.state c.args.disk.now) (g.D.Disk.state c.clear.new.disk) (g.D.Disk.state c.begin_index.new.disk) (g.met.D.Disk.sound c.args.disk.now told) (c.clear.ensures.removes told) (c.begin_index.ensures.honest told)

pub returns-in_err-handles-clause-shelf : goal.returns-in_err-handles-clause-shelf
returns-in_err-handles-clause-shelf g c = λ told. shelf_exists (g.D.Disk.state c.args.disk.now) (g.met.D.Disk.finite c.args.disk.now told)

pub returns-in_err-reply-clause-shelf : goal.returns-in_err-reply-clause-shelf
returns-in_err-reply-clause-shelf g c = λ told. shelf_exists (g.D.Disk.state c.args.disk.now) (g.met.D.Disk.finite c.args.disk.now told)

pub returns-in_err-clear-clause-shelf : goal.returns-in_err-clear-clause-shelf
returns-in_err-clear-clause-shelf g c = λ told. shelf_exists (g.D.Disk.state c.args.disk.now) (g.met.D.Disk.finite c.args.disk.now told)

pub returns-in_err-index-clause-shelf : goal.returns-in_err-index-clause-shelf
returns-in_err-index-clause-shelf g c = λ told. shelf_exists (g.D.Disk.state c.args.disk.now) (g.met.D.Disk.finite c.args.disk.now told)

pub returns-clause-shelf : goal.returns-clause-shelf
returns-clause-shelf g c = λ told. shelf_exists (g.D.Disk.state c.args.disk.now) (g.met.D.Disk.finite c.args.disk.now told)

pub returns-clause-opens : goal.returns-clause-opens
returns-clause-opens g c = λ told.
    opens (g.D.Disk.state c.args.disk.now) (g.D.Disk.state c.clear.new.disk) (g.D.Disk.state c.begin_index.new.disk) c.args.now
    (open_of (record { handles = c.in_ok-handles.handles; moment = c.args.now; index = c.in_ok-index.index; reply = c.in_ok-reply.reply; faulting = false; alloc = c.args.alloc }))
    (c.clear.ensures.removes told) (c.in_ok-clear.ensures.cleared told) (g.met.D.Disk.sound c.clear.new.disk told) (c.in_ok-index.ensures.opened told) refl (omega arith) c.in_ok-handles.ensures
    (c.in_ok-index.ensures.rest told) (c.in_ok-index.ensures.tells told) (c.in_ok-index.ensures.holds told)

pub returns-clause-open : goal.returns-clause-open
returns-clause-open g c = λ told. opens_open (g.D.Disk.state c.args.disk.now) c.args.now _ (g.met.D.Disk.finite c.args.disk.now told) (returns-clause-opens g c told)

pub returns-clause-based : goal.returns-clause-based
returns-clause-based g c = λ told.
    in_use_along (g.D.Disk.state c.args.disk.now) (g.D.Disk.state c.clear.new.disk) (cleared_left (g.D.Disk.state c.args.disk.now) (g.D.Disk.state c.clear.new.disk) (c.clear.ensures.removes told)).index.stands
    c.in_ok-index.index.map (g.D.Disk.state c.begin_index.new.disk) (c.in_ok-index.ensures.based told)

pub returns-clause-begins : goal.returns-clause-begins
returns-clause-begins g c = λ told.
    begins_along (g.D.Disk.state c.args.disk.now) (g.D.Disk.state c.clear.new.disk) (cleared_left (g.D.Disk.state c.args.disk.now) (g.D.Disk.state c.clear.new.disk) (c.clear.ensures.removes told)).index.stands
    c.in_ok-index.index.map (c.in_ok-index.ensures.begins told)

pub returns-clause-ordered : goal.returns-clause-ordered
returns-clause-ordered g c = λ told. (g.D.Disk.state c.clear.new.disk, (c.clear.ensures.removes told, c.in_ok-index.ensures.opened told))

-- ---- what a crash may leave at `clear`

pub returns-in_err-handles-clause-at_clear : goal.returns-in_err-handles-clause-at_clear
returns-in_err-handles-clause-at_clear g c = λ told quiet. nothing_keeps_clear (g.D.Disk.state c.args.disk.now) (quiet_is_clear_apart (g.D.Disk.state c.args.disk.now) quiet (g.met.D.Disk.sound c.args.disk.now told))

pub returns-in_err-reply-clause-at_clear : goal.returns-in_err-reply-clause-at_clear
returns-in_err-reply-clause-at_clear g c = λ told quiet. nothing_keeps_clear (g.D.Disk.state c.args.disk.now) (quiet_is_clear_apart (g.D.Disk.state c.args.disk.now) quiet (g.met.D.Disk.sound c.args.disk.now told))

pub returns-in_err-clear-clause-at_clear : goal.returns-in_err-clear-clause-at_clear
returns-in_err-clear-clause-at_clear g c = λ told quiet. (cleared_left (g.D.Disk.state c.args.disk.now) (g.D.Disk.state c.clear.new.disk) (c.clear.ensures.removes told)).clear (quiet_is_clear_apart (g.D.Disk.state c.args.disk.now) quiet (g.met.D.Disk.sound c.args.disk.now told))

pub returns-in_err-index-clause-at_clear : goal.returns-in_err-index-clause-at_clear
returns-in_err-index-clause-at_clear g c = λ told quiet. opened_keeps (g.D.Disk.state c.args.disk.now) (g.D.Disk.state c.clear.new.disk) (g.D.Disk.state c.begin_index.new.disk) (cleared_left (g.D.Disk.state c.args.disk.now) (g.D.Disk.state c.clear.new.disk) (c.clear.ensures.removes told)) (quiet_is_apart (g.D.Disk.state c.args.disk.now) quiet (g.met.D.Disk.sound c.args.disk.now told)) (c.begin_index.ensures.entries told) (quiet_is_clear_apart (g.D.Disk.state c.args.disk.now) quiet (g.met.D.Disk.sound c.args.disk.now told))

pub returns-clause-at_clear : goal.returns-clause-at_clear
returns-clause-at_clear g c = λ told quiet. opened_keeps (g.D.Disk.state c.args.disk.now) (g.D.Disk.state c.clear.new.disk) (g.D.Disk.state c.begin_index.new.disk) (cleared_left (g.D.Disk.state c.args.disk.now) (g.D.Disk.state c.clear.new.disk) (c.clear.ensures.removes told)) (quiet_is_apart (g.D.Disk.state c.args.disk.now) quiet (g.met.D.Disk.sound c.args.disk.now told)) (c.begin_index.ensures.entries told) (quiet_is_clear_apart (g.D.Disk.state c.args.disk.now) quiet (g.met.D.Disk.sound c.args.disk.now told))

-- ---- the calls behind the sync

pub returns-clause-behind : goal.returns-clause-behind
returns-clause-behind g c = λ told.
    behind_opening (g.D.Disk.state c.args.disk.now) (g.D.Disk.state c.clear.new.disk) (g.D.Disk.state c.begin_index.new.disk) (g.D.Disk.counts c.begin_index.new.disk) (g.met.D.Disk.sound c.clear.new.disk told)
    (c.clear.ensures.removes told) (c.in_ok-clear.ensures.cleared told) (c.begin_index.ensures.amid told) (c.in_ok-index.ensures.behind told)

pub returns-in_err-index-clause-fails : goal.returns-in_err-index-clause-fails
returns-in_err-index-clause-fails g c = λ failed told.
    let none = c.in_ok-clear.ensures.disk.account.syncs told in
    fails_in_opening (g.D.Disk.state c.args.disk.now) (g.D.Disk.state c.clear.new.disk) (g.D.Disk.state c.begin_index.new.disk) (g.D.Disk.counts c.args.disk.now) (g.D.Disk.counts c.clear.new.disk) (g.D.Disk.counts c.begin_index.new.disk) (g.met.D.Disk.sound c.clear.new.disk told)
    (c.clear.ensures.removes told) (c.in_ok-clear.ensures.cleared told) (c.begin_index.ensures.amid told) (omega (arith, none))
    (c.in_err-index.ensures.fails (disk_failed c.in_err-index.field-0.0 c.from_residual-in_err-index.result c.from_residual-in_err-index.ensures.1 failed) told)

pub returns-in_err-clear-clause-fails : goal.returns-in_err-clear-clause-fails
returns-in_err-clear-clause-fails g c = λ failed told.
    let none = c.clear.ensures.disk.account.syncs told in
    inr (inl (omega (arith, none)))
