use Rattle.std.proofs.Common.{◌≡◌, ◌∙◌, List, Err, Ok, ap, refl, subst, length}
use Rattle.cache_base.specs.declared.name.Name.{Name}
use Rattle.memory_index.specs.Forgetting.{Forgets}
use Rattle.cache_store.specs.Faults.{of_disk}
use Rattle.context_clear.specs.Mark.{mark_bytes}
use Rattle.file_handles.specs.Kept.{kept}
use Rattle.cache_store.proofs.Clearing.ClearDoes.{clear_does, clear_leaves, clear_looks, doom_fails, end_fails, files_from, index_ended, index_stored, names_held, number_free, store_fails, doom_stopped, end_stopped, looks_stopped, store_stopped}
use Rattle.cache_store.proofs.Performing.Stays.{ended_apart, look_stays, noted_disk}
use Rattle.index_theory.proofs.LeavesLaws.{both_leave_index}
use Rattle.cache_store.specs.Clearing.{is_used_or_stands}
use Rattle.cache_store.proofs.Clearing.ClearPart.{ending_in_order, none_in_order, order_takes, ordered_at, storing_in_order, taking_in_order}
use Rattle.cache_store.proofs.store.Store.clear_origin.Goals as goal

pub returns-in-Err-clause-does : goal.returns-in-Err-clause-does
returns-in-Err-clause-does g c = λ told.
    clear_looks c.args.origin (Err c.look_fault.result) (λ f. f ≡ of_disk c.in-Err.fault) c.look_fault.ensures.fault (kept c.args.self.now.handles) c.args.self.now.moment
    (g.D.Disk.state c.args.disk.now) (g.D.Disk.state c.finish_apart.new.disk) c.args.self.now.index c.finish_apart.new.self (c.in-Err.ensures.looks.state told)

pub returns-in-Err-clause-stays : goal.returns-in-Err-clause-stays
returns-in-Err-clause-stays g c = λ noted told.
    look_stays (kept c.args.self.now.handles) c.args.self.now.moment (g.D.Disk.state c.args.disk.now) (g.D.Disk.state c.finish_apart.new.disk) c.args.self.now.index c.finish_apart.new.self
    (c.in-Err.ensures.looks.state told) c.in-Err.ensures.base c.in-Err.ensures.rest (c.in-Err.ensures.stays told)

pub returns-in-Err-clause-faulted : goal.returns-in-Err-clause-faulted
returns-in-Err-clause-faulted g c = noted_disk c.in-Err.fault c.look_fault.result c.look_fault.new.faulting c.look_fault.ensures.fault c.look_fault.ensures.faulting

pub returns-in_err-names-clause-does : goal.returns-in_err-names-clause-does
returns-in_err-names-clause-does g c = λ told.
    clear_looks c.args.origin c.from_residual.result _ c.from_residual.ensures.1 (kept c.args.self.now.handles) c.args.self.now.moment
    (g.D.Disk.state c.args.disk.now) (g.D.Disk.state c.finish_apart.new.disk) c.args.self.now.index c.finish_apart.new.self (c.in-Ok.ensures.looks.state told)

pub returns-in-Err-held-clause-does : goal.returns-in-Err-held-clause-does
returns-in-Err-held-clause-does g c = λ told.
    clear_looks c.args.origin (Err c.look_fault-in-Err-held.result) (λ f. f ≡ of_disk c.in-Err-held.fault) c.look_fault-in-Err-held.ensures.fault (kept c.args.self.now.handles) c.args.self.now.moment
    (g.D.Disk.state c.args.disk.now) (g.D.Disk.state c.held.new.disk) c.args.self.now.index c.finish_apart.new.self
    (c.in-Err-held.ensures.looks.state told ∙ c.in-Ok.ensures.looks.state told)

pub returns-in-Err-held-clause-stays : goal.returns-in-Err-held-clause-stays
returns-in-Err-held-clause-stays g c = λ noted told.
    look_stays (kept c.args.self.now.handles) c.args.self.now.moment (g.D.Disk.state c.args.disk.now) (g.D.Disk.state c.held.new.disk) c.args.self.now.index c.finish_apart.new.self
    (c.in-Err-held.ensures.looks.state told ∙ c.in-Ok.ensures.looks.state told) c.in-Ok.ensures.base c.in-Ok.ensures.rest (c.in-Ok.ensures.stays told)

pub returns-in-Err-held-clause-faulted : goal.returns-in-Err-held-clause-faulted
returns-in-Err-held-clause-faulted g c = noted_disk c.in-Err-held.fault c.look_fault-in-Err-held.result c.look_fault-in-Err-held.new.faulting c.look_fault-in-Err-held.ensures.fault c.look_fault-in-Err-held.ensures.faulting

pub store-requires : goal.store-requires
store-requires g c = λ told.
    number_free (kept c.args.self.now.handles) (g.D.Disk.state c.args.disk.now) (g.D.Disk.state c.held.new.disk) 64 (c.in-Ok-held.ensures.looks.state told ∙ c.in-Ok.ensures.looks.state told)
    c.leaves_number_free.ensures ((c.requires.told told).0, (c.requires.told told).1.stands)

pub returns-in_err-store-clause-does : goal.returns-in_err-store-clause-does
returns-in_err-store-clause-does g c = λ told.
    store_fails c.args.origin (kept c.args.self.now.handles) (kept c.args.self.now.handles) c.args.self.now.moment (g.D.Disk.state c.args.disk.now) (g.D.Disk.state c.finish_apart.new.disk)
    c.args.self.now.index (record { map = c.finish_apart.new.self.map; update = c.in-Ok.ended }) c.in_ok-names.names
    (ended_apart (g.D.Disk.state c.args.disk.now) (g.D.Disk.state c.finish_apart.new.disk) c.args.self.now.index c.finish_apart.new.self.map c.in-Ok.ended (c.in-Ok.ensures.looks.state told)
    c.in-Ok.ensures.ended c.in-Ok.ensures.base (c.in-Ok.ensures.records told) (c.in-Ok.ensures.tells told))
    c.in_ok-names.ensures 64 (mark_bytes c.args.origin) (g.D.Disk.state c.held.new.disk) (c.in-Ok-held.ensures.looks.state told ∙ c.in-Ok.ensures.looks.state told) (g.met.D.Disk.sound c.held.new.disk told)
    c.from_residual-in_err-store.result _ c.from_residual-in_err-store.ensures.1 (g.D.Disk.state c.store.new.disk) (record { map = c.finish_apart.new.self.map; update = c.in-Ok.ended }) (c.in_err-store.ensures.amid told)

pub returns-in_err-store-clause-index : goal.returns-in_err-store-clause-index
returns-in_err-store-clause-index g c = λ told.
    index_stored (g.D.Disk.state c.args.disk.now) (g.D.Disk.state c.held.new.disk) (g.D.Disk.state c.store.new.disk) 64 (mark_bytes c.args.origin)
    (c.in-Ok-held.ensures.looks.state told ∙ c.in-Ok.ensures.looks.state told) (g.met.D.Disk.sound c.held.new.disk told) (c.in_err-store.ensures.amid told)

pub doom_names-requires : goal.doom_names-requires
doom_names-requires g c = record {
  told = λ told.
      let s = g.D.Disk.state c.args.disk.now in
      let v = g.D.Disk.state c.held.new.disk in
      let same = c.in-Ok-held.ensures.looks.state told ∙ c.in-Ok.ensures.looks.state told in
      names_held c.args.origin (kept c.args.self.now.handles) (kept c.args.self.now.handles) c.args.self.now.moment s (g.D.Disk.state c.finish_apart.new.disk)
      c.args.self.now.index (record { map = c.finish_apart.new.self.map; update = c.in-Ok.ended }) c.in_ok-names.names
      (ended_apart s (g.D.Disk.state c.finish_apart.new.disk) c.args.self.now.index c.finish_apart.new.self.map c.in-Ok.ended (c.in-Ok.ensures.looks.state told)
      c.in-Ok.ensures.ended c.in-Ok.ensures.base (c.in-Ok.ensures.records told) (c.in-Ok.ensures.tells told))
      c.in_ok-names.ensures 64 (mark_bytes c.args.origin) v same (g.met.D.Disk.sound c.held.new.disk told) (g.D.Disk.state c.store.new.disk)
      (number_free (kept c.args.self.now.handles) s v 64 same c.leaves_number_free.ensures ((c.requires.told told).0, (c.requires.told told).1.stands)) (c.in_ok-store.ensures.placed told)
      c.as_slice-2.result.now
      (files_from (kept c.args.self.now.handles) s (g.D.Disk.state c.finish_apart.new.disk) c.in_ok-names.names c.as_slice.result.now c.in-Ok-held.there c.as_slice-2.result.now c.as_slice.ensures c.as_slice-2.ensures (c.in-Ok.ensures.looks.state told) (c.in-Ok-held.ensures.held told))
      ((c.requires.told told).0, (c.requires.told told).1.stands);
}

pub returns-in_err-doom_names-clause-does : goal.returns-in_err-doom_names-clause-does
returns-in_err-doom_names-clause-does g c = λ told.
    let s = g.D.Disk.state c.args.disk.now in
    let v = g.D.Disk.state c.held.new.disk in
    let same = c.in-Ok-held.ensures.looks.state told ∙ c.in-Ok.ensures.looks.state told in
    doom_fails c.args.origin (kept c.args.self.now.handles) (kept c.doom_names.new.handles) c.args.self.now.moment s (g.D.Disk.state c.finish_apart.new.disk)
    c.args.self.now.index (record { map = c.finish_apart.new.self.map; update = c.in-Ok.ended }) c.in_ok-names.names
    (ended_apart s (g.D.Disk.state c.finish_apart.new.disk) c.args.self.now.index c.finish_apart.new.self.map c.in-Ok.ended (c.in-Ok.ensures.looks.state told)
    c.in-Ok.ensures.ended c.in-Ok.ensures.base (c.in-Ok.ensures.records told) (c.in-Ok.ensures.tells told))
    c.in_ok-names.ensures 64 (mark_bytes c.args.origin) v same (g.met.D.Disk.sound c.held.new.disk told) (g.D.Disk.state c.store.new.disk)
    (number_free (kept c.args.self.now.handles) s v 64 same c.leaves_number_free.ensures ((c.requires.told told).0, (c.requires.told told).1.stands)) (c.in_ok-store.ensures.placed told)
    c.as_slice-2.result.now
    (files_from (kept c.args.self.now.handles) s (g.D.Disk.state c.finish_apart.new.disk) c.in_ok-names.names c.as_slice.result.now c.in-Ok-held.there c.as_slice-2.result.now c.as_slice.ensures c.as_slice-2.ensures (c.in-Ok.ensures.looks.state told) (c.in-Ok-held.ensures.held told))
    c.doom_names.result (g.D.Disk.state c.doom_names.new.disk) (c.doom_names.ensures.dooms told)
    c.from_residual-in_err-doom_names.result _ c.from_residual-in_err-doom_names.ensures.1 (record { map = c.finish_apart.new.self.map; update = c.in-Ok.ended })

pub returns-in_err-doom_names-clause-index : goal.returns-in_err-doom_names-clause-index
returns-in_err-doom_names-clause-index g c = λ told.
    both_leave_index (g.D.Disk.state c.args.disk.now) (g.D.Disk.state c.store.new.disk) (g.D.Disk.state c.doom_names.new.disk)
    (index_stored (g.D.Disk.state c.args.disk.now) (g.D.Disk.state c.held.new.disk) (g.D.Disk.state c.store.new.disk) 64 (mark_bytes c.args.origin)
    (c.in-Ok-held.ensures.looks.state told ∙ c.in-Ok.ensures.looks.state told) (g.met.D.Disk.sound c.held.new.disk told) (c.store.ensures.amid told))
    (c.doom_names.ensures.index told).index

pub returns-in_err-end-clause-does : goal.returns-in_err-end-clause-does
returns-in_err-end-clause-does g c = λ told.
    let s = g.D.Disk.state c.args.disk.now in
    let v = g.D.Disk.state c.held.new.disk in
    let same = c.in-Ok-held.ensures.looks.state told ∙ c.in-Ok.ensures.looks.state told in
    end_fails c.args.origin (kept c.args.self.now.handles) (kept c.doom_names.new.handles) c.args.self.now.moment s (g.D.Disk.state c.finish_apart.new.disk)
    c.args.self.now.index (record { map = c.finish_apart.new.self.map; update = c.in-Ok.ended }) c.in_ok-names.names
    (ended_apart s (g.D.Disk.state c.finish_apart.new.disk) c.args.self.now.index c.finish_apart.new.self.map c.in-Ok.ended (c.in-Ok.ensures.looks.state told)
    c.in-Ok.ensures.ended c.in-Ok.ensures.base (c.in-Ok.ensures.records told) (c.in-Ok.ensures.tells told))
    c.in_ok-names.ensures 64 (mark_bytes c.args.origin) v same (g.met.D.Disk.sound c.held.new.disk told) (g.D.Disk.state c.store.new.disk)
    (number_free (kept c.args.self.now.handles) s v 64 same c.leaves_number_free.ensures ((c.requires.told told).0, (c.requires.told told).1.stands)) (c.in_ok-store.ensures.placed told)
    c.as_slice-2.result.now
    (files_from (kept c.args.self.now.handles) s (g.D.Disk.state c.finish_apart.new.disk) c.in_ok-names.names c.as_slice.result.now c.in-Ok-held.there c.as_slice-2.result.now c.as_slice.ensures c.as_slice-2.ensures (c.in-Ok.ensures.looks.state told) (c.in-Ok-held.ensures.held told))
    (Ok tt) (g.D.Disk.state c.doom_names.new.disk) (c.in_ok-doom_names.ensures.dooms told) tt refl
    c.from_residual-in_err-end.result _ c.from_residual-in_err-end.ensures.1 (g.D.Disk.state c.end.new.disk) (record { map = c.finish_apart.new.self.map; update = c.in-Ok.ended }) (c.in_err-end.ensures.amid told)

pub returns-in_err-end-clause-index : goal.returns-in_err-end-clause-index
returns-in_err-end-clause-index g c = λ told.
    index_ended (g.D.Disk.state c.args.disk.now) (g.D.Disk.state c.doom_names.new.disk) (g.D.Disk.state c.end.new.disk)
    (both_leave_index (g.D.Disk.state c.args.disk.now) (g.D.Disk.state c.store.new.disk) (g.D.Disk.state c.doom_names.new.disk)
    (index_stored (g.D.Disk.state c.args.disk.now) (g.D.Disk.state c.held.new.disk) (g.D.Disk.state c.store.new.disk) 64 (mark_bytes c.args.origin)
    (c.in-Ok-held.ensures.looks.state told ∙ c.in-Ok.ensures.looks.state told) (g.met.D.Disk.sound c.held.new.disk told) (c.store.ensures.amid told))
    (c.doom_names.ensures.index told).index) (g.met.D.Disk.sound c.doom_names.new.disk told) (c.end.ensures.amid told)

pub returns-clause-index : goal.returns-clause-index
returns-clause-index g c = λ told.
    index_ended (g.D.Disk.state c.args.disk.now) (g.D.Disk.state c.doom_names.new.disk) (g.D.Disk.state c.end.new.disk)
    (both_leave_index (g.D.Disk.state c.args.disk.now) (g.D.Disk.state c.store.new.disk) (g.D.Disk.state c.doom_names.new.disk)
    (index_stored (g.D.Disk.state c.args.disk.now) (g.D.Disk.state c.held.new.disk) (g.D.Disk.state c.store.new.disk) 64 (mark_bytes c.args.origin)
    (c.in-Ok-held.ensures.looks.state told ∙ c.in-Ok.ensures.looks.state told) (g.met.D.Disk.sound c.held.new.disk told) (c.store.ensures.amid told))
    (c.doom_names.ensures.index told).index) (g.met.D.Disk.sound c.doom_names.new.disk told) (c.end.ensures.amid told)

pub returns-clause-does : goal.returns-clause-does
returns-clause-does g c = λ told.
    let s = g.D.Disk.state c.args.disk.now in
    let t = g.D.Disk.state c.finish_apart.new.disk in
    let v = g.D.Disk.state c.held.new.disk in
    let k = kept c.args.self.now.handles in
    let l = kept c.doom_names.new.handles in
    let same = c.in-Ok-held.ensures.looks.state told ∙ c.in-Ok.ensures.looks.state told in
    let index = index_ended s (g.D.Disk.state c.doom_names.new.disk) (g.D.Disk.state c.end.new.disk)
    (both_leave_index s (g.D.Disk.state c.store.new.disk) (g.D.Disk.state c.doom_names.new.disk)
    (index_stored s v (g.D.Disk.state c.store.new.disk) 64 (mark_bytes c.args.origin) same (g.met.D.Disk.sound c.held.new.disk told) (c.store.ensures.amid told))
    (c.doom_names.ensures.index told).index) (g.met.D.Disk.sound c.doom_names.new.disk told) (c.end.ensures.amid told) in
    clear_does c.args.origin k l c.args.self.now.moment s t
    c.args.self.now.index (record { map = c.finish_apart.new.self.map; update = c.in-Ok.ended }) c.in_ok-names.names
    (ended_apart s t c.args.self.now.index c.finish_apart.new.self.map c.in-Ok.ended (c.in-Ok.ensures.looks.state told)
    c.in-Ok.ensures.ended c.in-Ok.ensures.base (c.in-Ok.ensures.records told) (c.in-Ok.ensures.tells told))
    c.in_ok-names.ensures 64 (mark_bytes c.args.origin) v same (g.met.D.Disk.sound c.held.new.disk told) (g.D.Disk.state c.store.new.disk)
    (number_free k s v 64 same c.leaves_number_free.ensures ((c.requires.told told).0, (c.requires.told told).1.stands)) (c.in_ok-store.ensures.placed told)
    c.as_slice-2.result.now
    (files_from k s t c.in_ok-names.names c.as_slice.result.now c.in-Ok-held.there c.as_slice-2.result.now c.as_slice.ensures c.as_slice-2.ensures (c.in-Ok.ensures.looks.state told) (c.in-Ok-held.ensures.held told))
    (Ok tt) (g.D.Disk.state c.doom_names.new.disk) (c.in_ok-doom_names.ensures.dooms told) tt refl
    (g.D.Disk.state c.end.new.disk) c.forget.new.self (length c.as_slice-4.result.now) (ap (λ (ns : List Name). length ns) c.as_slice-4.ensures) (g.met.D.Disk.sound c.doom_names.new.disk told) (c.in_ok-end.ensures.ended told) index
    (subst (λ (ns : List Name). Forgets ns c.finish_apart.new.self.map c.forget.new.self.map) c.as_slice-3.ensures c.forget.ensures.forgets) c.forget.ensures.rest

pub returns-clause-clears : goal.returns-clause-clears
returns-clause-clears g c = λ told.
    let s = g.D.Disk.state c.args.disk.now in
    let t = g.D.Disk.state c.finish_apart.new.disk in
    clear_leaves c.args.origin (kept c.args.self.now.handles) (kept c.doom_names.new.handles) c.args.self.now.moment s t
    c.args.self.now.index (record { map = c.finish_apart.new.self.map; update = c.in-Ok.ended }) c.in_ok-names.names
    (ended_apart s t c.args.self.now.index c.finish_apart.new.self.map c.in-Ok.ended (c.in-Ok.ensures.looks.state told)
    c.in-Ok.ensures.ended c.in-Ok.ensures.base (c.in-Ok.ensures.records told) (c.in-Ok.ensures.tells told))
    c.in_ok-names.ensures c.forget.new.self (subst (λ (ns : List Name). Forgets ns c.finish_apart.new.self.map c.forget.new.self.map) c.as_slice-3.ensures c.forget.ensures.forgets)

pub returns-clause-unmarked : goal.returns-clause-unmarked
returns-clause-unmarked g c = λ told. (c.in_ok-end.ensures.stands told).here

pub returns-in-Err-clause-stopped : goal.returns-in-Err-clause-stopped
returns-in-Err-clause-stopped g c = λ told.
    looks_stopped c.args.origin (kept c.args.self.now.handles) c.args.self.now.moment (g.D.Disk.state c.args.disk.now) (g.D.Disk.state c.finish_apart.new.disk) c.args.self.now.index (c.in-Err.ensures.looks.state told)

pub returns-in_err-names-clause-stopped : goal.returns-in_err-names-clause-stopped
returns-in_err-names-clause-stopped g c = λ told.
    looks_stopped c.args.origin (kept c.args.self.now.handles) c.args.self.now.moment (g.D.Disk.state c.args.disk.now) (g.D.Disk.state c.finish_apart.new.disk) c.args.self.now.index (c.in-Ok.ensures.looks.state told)

pub returns-in-Err-held-clause-stopped : goal.returns-in-Err-held-clause-stopped
returns-in-Err-held-clause-stopped g c = λ told.
    looks_stopped c.args.origin (kept c.args.self.now.handles) c.args.self.now.moment (g.D.Disk.state c.args.disk.now) (g.D.Disk.state c.held.new.disk) c.args.self.now.index
    (c.in-Err-held.ensures.looks.state told ∙ c.in-Ok.ensures.looks.state told)

pub returns-in_err-store-clause-stopped : goal.returns-in_err-store-clause-stopped
returns-in_err-store-clause-stopped g c = λ told.
    let s = g.D.Disk.state c.args.disk.now in
    let v = g.D.Disk.state c.held.new.disk in
    let k = kept c.args.self.now.handles in
    let same = c.in-Ok-held.ensures.looks.state told ∙ c.in-Ok.ensures.looks.state told in
    let free = number_free k s v 64 same c.leaves_number_free.ensures ((c.requires.told told).0, (c.requires.told told).1.stands) in
    store_stopped c.args.origin k k c.args.self.now.moment s (g.D.Disk.state c.finish_apart.new.disk)
    c.args.self.now.index (record { map = c.finish_apart.new.self.map; update = c.in-Ok.ended }) c.in_ok-names.names
    (ended_apart s (g.D.Disk.state c.finish_apart.new.disk) c.args.self.now.index c.finish_apart.new.self.map c.in-Ok.ended (c.in-Ok.ensures.looks.state told)
    c.in-Ok.ensures.ended c.in-Ok.ensures.base (c.in-Ok.ensures.records told) (c.in-Ok.ensures.tells told))
    c.in_ok-names.ensures 64 (mark_bytes c.args.origin) v same (g.met.D.Disk.sound c.held.new.disk told)
    refl free (g.D.Disk.state c.store.new.disk) (c.store.ensures.amid told)

pub returns-in_err-doom_names-clause-stopped : goal.returns-in_err-doom_names-clause-stopped
returns-in_err-doom_names-clause-stopped g c = λ told.
    let s = g.D.Disk.state c.args.disk.now in
    let v = g.D.Disk.state c.held.new.disk in
    let k = kept c.args.self.now.handles in
    let same = c.in-Ok-held.ensures.looks.state told ∙ c.in-Ok.ensures.looks.state told in
    let free = number_free k s v 64 same c.leaves_number_free.ensures ((c.requires.told told).0, (c.requires.told told).1.stands) in
    doom_stopped c.args.origin k k c.args.self.now.moment s (g.D.Disk.state c.finish_apart.new.disk)
    c.args.self.now.index (record { map = c.finish_apart.new.self.map; update = c.in-Ok.ended }) c.in_ok-names.names
    (ended_apart s (g.D.Disk.state c.finish_apart.new.disk) c.args.self.now.index c.finish_apart.new.self.map c.in-Ok.ended (c.in-Ok.ensures.looks.state told)
    c.in-Ok.ensures.ended c.in-Ok.ensures.base (c.in-Ok.ensures.records told) (c.in-Ok.ensures.tells told))
    c.in_ok-names.ensures 64 (mark_bytes c.args.origin) v same (g.met.D.Disk.sound c.held.new.disk told)
    (g.D.Disk.state c.store.new.disk) free (c.in_ok-store.ensures.placed told) refl
    (g.D.Disk.state c.doom_names.new.disk) (order_takes c.as_slice-2.result.now (g.D.Disk.state c.store.new.disk) (g.D.Disk.state c.doom_names.new.disk) (c.doom_names.ensures.takes told))

pub returns-in_err-end-clause-stopped : goal.returns-in_err-end-clause-stopped
returns-in_err-end-clause-stopped g c = λ told.
    let s = g.D.Disk.state c.args.disk.now in
    let v = g.D.Disk.state c.held.new.disk in
    let k = kept c.args.self.now.handles in
    let same = c.in-Ok-held.ensures.looks.state told ∙ c.in-Ok.ensures.looks.state told in
    let free = number_free k s v 64 same c.leaves_number_free.ensures ((c.requires.told told).0, (c.requires.told told).1.stands) in
    end_stopped c.args.origin k (kept c.doom_names.new.handles) c.args.self.now.moment s (g.D.Disk.state c.finish_apart.new.disk)
    c.args.self.now.index (record { map = c.finish_apart.new.self.map; update = c.in-Ok.ended }) c.in_ok-names.names
    (ended_apart s (g.D.Disk.state c.finish_apart.new.disk) c.args.self.now.index c.finish_apart.new.self.map c.in-Ok.ended (c.in-Ok.ensures.looks.state told)
    c.in-Ok.ensures.ended c.in-Ok.ensures.base (c.in-Ok.ensures.records told) (c.in-Ok.ensures.tells told))
    c.in_ok-names.ensures 64 (mark_bytes c.args.origin) v same (g.met.D.Disk.sound c.held.new.disk told)
    (g.D.Disk.state c.store.new.disk) free (c.in_ok-store.ensures.placed told) c.as_slice-2.result.now
    (files_from k s (g.D.Disk.state c.finish_apart.new.disk) c.in_ok-names.names c.as_slice.result.now c.in-Ok-held.there c.as_slice-2.result.now c.as_slice.ensures c.as_slice-2.ensures (c.in-Ok.ensures.looks.state told) (c.in-Ok-held.ensures.held told))
    (Ok tt) (g.D.Disk.state c.doom_names.new.disk) (c.in_ok-doom_names.ensures.dooms told) tt refl
    refl (order_takes c.as_slice-2.result.now (g.D.Disk.state c.store.new.disk) (g.D.Disk.state c.doom_names.new.disk) (c.doom_names.ensures.takes told)) (g.D.Disk.state c.end.new.disk) (c.end.ensures.amid told)

pub returns-clause-stopped : goal.returns-clause-stopped
returns-clause-stopped g c = λ told.
    let s = g.D.Disk.state c.args.disk.now in
    let v = g.D.Disk.state c.held.new.disk in
    let k = kept c.args.self.now.handles in
    let same = c.in-Ok-held.ensures.looks.state told ∙ c.in-Ok.ensures.looks.state told in
    let free = number_free k s v 64 same c.leaves_number_free.ensures ((c.requires.told told).0, (c.requires.told told).1.stands) in
    end_stopped c.args.origin k (kept c.doom_names.new.handles) c.args.self.now.moment s (g.D.Disk.state c.finish_apart.new.disk)
    c.args.self.now.index (record { map = c.finish_apart.new.self.map; update = c.in-Ok.ended }) c.in_ok-names.names
    (ended_apart s (g.D.Disk.state c.finish_apart.new.disk) c.args.self.now.index c.finish_apart.new.self.map c.in-Ok.ended (c.in-Ok.ensures.looks.state told)
    c.in-Ok.ensures.ended c.in-Ok.ensures.base (c.in-Ok.ensures.records told) (c.in-Ok.ensures.tells told))
    c.in_ok-names.ensures 64 (mark_bytes c.args.origin) v same (g.met.D.Disk.sound c.held.new.disk told)
    (g.D.Disk.state c.store.new.disk) free (c.in_ok-store.ensures.placed told) c.as_slice-2.result.now
    (files_from k s (g.D.Disk.state c.finish_apart.new.disk) c.in_ok-names.names c.as_slice.result.now c.in-Ok-held.there c.as_slice-2.result.now c.as_slice.ensures c.as_slice-2.ensures (c.in-Ok.ensures.looks.state told) (c.in-Ok-held.ensures.held told))
    (Ok tt) (g.D.Disk.state c.doom_names.new.disk) (c.in_ok-doom_names.ensures.dooms told) tt refl
    refl (order_takes c.as_slice-2.result.now (g.D.Disk.state c.store.new.disk) (g.D.Disk.state c.doom_names.new.disk) (c.doom_names.ensures.takes told)) (g.D.Disk.state c.end.new.disk) (c.end.ensures.amid told)

-- ---- the changes in their order, and what they leave at `clear`

pub returns-in-Err-clause-ordered : goal.returns-in-Err-clause-ordered
returns-in-Err-clause-ordered g c = λ told. none_in_order c.args.origin (g.D.Disk.state c.args.disk.now) (g.D.Disk.state c.finish_apart.new.disk) (c.in-Err.ensures.looks.state told)

pub returns-in-Err-clause-at_clear : goal.returns-in-Err-clause-at_clear
returns-in-Err-clause-at_clear g c = λ told. ordered_at c.args.origin (g.D.Disk.state c.args.disk.now) (g.D.Disk.state c.finish_apart.new.disk) (g.met.D.Disk.sound c.args.disk.now told) (returns-in-Err-clause-ordered g c told)

pub returns-in_err-names-clause-ordered : goal.returns-in_err-names-clause-ordered
returns-in_err-names-clause-ordered g c = λ told. none_in_order c.args.origin (g.D.Disk.state c.args.disk.now) (g.D.Disk.state c.finish_apart.new.disk) (c.in-Ok.ensures.looks.state told)

pub returns-in_err-names-clause-at_clear : goal.returns-in_err-names-clause-at_clear
returns-in_err-names-clause-at_clear g c = λ told. ordered_at c.args.origin (g.D.Disk.state c.args.disk.now) (g.D.Disk.state c.finish_apart.new.disk) (g.met.D.Disk.sound c.args.disk.now told) (returns-in_err-names-clause-ordered g c told)

pub returns-in-Err-held-clause-ordered : goal.returns-in-Err-held-clause-ordered
returns-in-Err-held-clause-ordered g c = λ told. none_in_order c.args.origin (g.D.Disk.state c.args.disk.now) (g.D.Disk.state c.held.new.disk) (c.in-Err-held.ensures.looks.state told ∙ c.in-Ok.ensures.looks.state told)

pub returns-in-Err-held-clause-at_clear : goal.returns-in-Err-held-clause-at_clear
returns-in-Err-held-clause-at_clear g c = λ told. ordered_at c.args.origin (g.D.Disk.state c.args.disk.now) (g.D.Disk.state c.held.new.disk) (g.met.D.Disk.sound c.args.disk.now told) (returns-in-Err-held-clause-ordered g c told)

pub returns-in_err-store-clause-ordered : goal.returns-in_err-store-clause-ordered
returns-in_err-store-clause-ordered g c = λ told. storing_in_order c.args.origin (g.D.Disk.state c.args.disk.now) (g.D.Disk.state c.held.new.disk) (g.D.Disk.state c.store.new.disk) (c.in-Ok-held.ensures.looks.state told ∙ c.in-Ok.ensures.looks.state told) (c.in_err-store.ensures.amid told)

pub returns-in_err-store-clause-at_clear : goal.returns-in_err-store-clause-at_clear
returns-in_err-store-clause-at_clear g c = λ told. ordered_at c.args.origin (g.D.Disk.state c.args.disk.now) (g.D.Disk.state c.store.new.disk) (g.met.D.Disk.sound c.args.disk.now told) (returns-in_err-store-clause-ordered g c told)

pub returns-in_err-doom_names-clause-ordered : goal.returns-in_err-doom_names-clause-ordered
returns-in_err-doom_names-clause-ordered g c = λ told. taking_in_order c.args.origin (is_used_or_stands (kept c.args.self.now.handles) (g.D.Disk.state c.args.disk.now)) c.in_ok-names.names c.as_slice-2.result.now (files_from (kept c.args.self.now.handles) (g.D.Disk.state c.args.disk.now) (g.D.Disk.state c.finish_apart.new.disk) c.in_ok-names.names c.as_slice.result.now c.in-Ok-held.there c.as_slice-2.result.now c.as_slice.ensures c.as_slice-2.ensures (c.in-Ok.ensures.looks.state told) (c.in-Ok-held.ensures.held told)) c.in_ok-names.ensures.rising (g.D.Disk.state c.args.disk.now) (g.D.Disk.state c.held.new.disk) (g.D.Disk.state c.store.new.disk) (g.D.Disk.state c.doom_names.new.disk) (c.in-Ok-held.ensures.looks.state told ∙ c.in-Ok.ensures.looks.state told) (c.in_ok-store.ensures.placed told) (c.doom_names.ensures.takes told)

pub returns-in_err-doom_names-clause-at_clear : goal.returns-in_err-doom_names-clause-at_clear
returns-in_err-doom_names-clause-at_clear g c = λ told. ordered_at c.args.origin (g.D.Disk.state c.args.disk.now) (g.D.Disk.state c.doom_names.new.disk) (g.met.D.Disk.sound c.args.disk.now told) (returns-in_err-doom_names-clause-ordered g c told)

pub returns-in_err-end-clause-ordered : goal.returns-in_err-end-clause-ordered
returns-in_err-end-clause-ordered g c = λ told. ending_in_order c.args.origin (is_used_or_stands (kept c.args.self.now.handles) (g.D.Disk.state c.args.disk.now)) c.in_ok-names.names c.as_slice-2.result.now (files_from (kept c.args.self.now.handles) (g.D.Disk.state c.args.disk.now) (g.D.Disk.state c.finish_apart.new.disk) c.in_ok-names.names c.as_slice.result.now c.in-Ok-held.there c.as_slice-2.result.now c.as_slice.ensures c.as_slice-2.ensures (c.in-Ok.ensures.looks.state told) (c.in-Ok-held.ensures.held told)) c.in_ok-names.ensures.rising (g.D.Disk.state c.args.disk.now) (g.D.Disk.state c.held.new.disk) (g.D.Disk.state c.store.new.disk) (g.D.Disk.state c.doom_names.new.disk) (g.D.Disk.state c.end.new.disk) (c.in-Ok-held.ensures.looks.state told ∙ c.in-Ok.ensures.looks.state told) (c.in_ok-store.ensures.placed told) (c.doom_names.ensures.takes told) (c.end.ensures.amid told)

pub returns-in_err-end-clause-at_clear : goal.returns-in_err-end-clause-at_clear
returns-in_err-end-clause-at_clear g c = λ told. ordered_at c.args.origin (g.D.Disk.state c.args.disk.now) (g.D.Disk.state c.end.new.disk) (g.met.D.Disk.sound c.args.disk.now told) (returns-in_err-end-clause-ordered g c told)

pub returns-clause-ordered : goal.returns-clause-ordered
returns-clause-ordered g c = λ told. ending_in_order c.args.origin (is_used_or_stands (kept c.args.self.now.handles) (g.D.Disk.state c.args.disk.now)) c.in_ok-names.names c.as_slice-2.result.now (files_from (kept c.args.self.now.handles) (g.D.Disk.state c.args.disk.now) (g.D.Disk.state c.finish_apart.new.disk) c.in_ok-names.names c.as_slice.result.now c.in-Ok-held.there c.as_slice-2.result.now c.as_slice.ensures c.as_slice-2.ensures (c.in-Ok.ensures.looks.state told) (c.in-Ok-held.ensures.held told)) c.in_ok-names.ensures.rising (g.D.Disk.state c.args.disk.now) (g.D.Disk.state c.held.new.disk) (g.D.Disk.state c.store.new.disk) (g.D.Disk.state c.doom_names.new.disk) (g.D.Disk.state c.end.new.disk) (c.in-Ok-held.ensures.looks.state told ∙ c.in-Ok.ensures.looks.state told) (c.in_ok-store.ensures.placed told) (c.doom_names.ensures.takes told) (c.end.ensures.amid told)

pub returns-clause-at_clear : goal.returns-clause-at_clear
returns-clause-at_clear g c = λ told. ordered_at c.args.origin (g.D.Disk.state c.args.disk.now) (g.D.Disk.state c.end.new.disk) (g.met.D.Disk.sound c.args.disk.now told) (returns-clause-ordered g c told)
