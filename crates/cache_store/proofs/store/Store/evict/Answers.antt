use Rattle.std.proofs.Common.{◌≡◌, ◌∙◌, List, Err, Ok, refl, subst, sym}
use Rattle.cache_store.specs.Faults.{of_disk}
use Rattle.cache_base.specs.declared.name.Name.{Name}
use Rattle.cache_theory.specs.Text.{names_text}
use Rattle.file_handles.specs.Kept.{kept}
use Rattle.cache_store.specs.Evicting.{ArePicked, AreUnused}
use Rattle.memory_index.specs.Forgetting.{Forgets}
use Rattle.cache_replies.specs.Said.{saying}
use Rattle.cache_replies.specs.Saying.{CutsIn, SaysMore}
use Rattle.cache_store.proofs.Evicting.EvictDoes.{evict_leaves, evict_does, evict_fails, evict_looks, evict_stops, removes}
use Rattle.cache_store.proofs.Records.ListDoes.{no_sink}
use Rattle.cache_store.proofs.Performing.Stays.{ended_apart, look_stays, noted_disk}
use Rattle.cache_store.proofs.Saying.TakenMore.{cuts_takes, says_takes}
use Rattle.cache_store.proofs.Evicting.VictimsApart.{files_hold, picked_unused}
use Rattle.file_handles.proofs.TakingSteps.{takes_same, takes_then}
use Rattle.file_handles.proofs.UnsyncedLaws.{same_unsynced, then_unsynced}
use Rattle.file_handles.proofs.IndexLeft.{same_left}
use Rattle.cache_store.proofs.store.Store.evict.Goals as goal

pub returns-in-Err-clause-does : goal.returns-in-Err-clause-does
returns-in-Err-clause-does g c = λ told.
    evict_looks c.args.kb (Err c.look_fault.result) (λ f. f ≡ of_disk c.in-Err.fault) c.look_fault.ensures.fault (λ f is sink. no_sink _ (sym is ∙ sink)) (kept c.args.self.now.handles) c.args.self.now.moment
    (g.D.Disk.state c.args.disk.now) (g.D.Disk.state c.finish_apart.new.disk) c.args.self.now.index c.finish_apart.new.self (saying g.K.Sink c.args.self.now.reply c.args.sink.now) (c.in-Err.ensures.looks.state told)

pub returns-in-Err-clause-stays : goal.returns-in-Err-clause-stays
returns-in-Err-clause-stays g c = λ noted told.
    look_stays (kept c.args.self.now.handles) c.args.self.now.moment (g.D.Disk.state c.args.disk.now) (g.D.Disk.state c.finish_apart.new.disk) c.args.self.now.index c.finish_apart.new.self
    (c.in-Err.ensures.looks.state told) c.in-Err.ensures.base c.in-Err.ensures.rest (c.in-Err.ensures.stays told)

pub returns-in-Err-clause-faulted : goal.returns-in-Err-clause-faulted
returns-in-Err-clause-faulted g c = noted_disk c.in-Err.fault c.look_fault.result c.look_fault.new.faulting c.look_fault.ensures.fault c.look_fault.ensures.faulting

pub returns-in_err-names-clause-does : goal.returns-in_err-names-clause-does
returns-in_err-names-clause-does g c = λ told.
    evict_looks c.args.kb c.from_residual.result _ c.from_residual.ensures.1 (λ f is sink. absurd (let never = sym is ∙ sink in cc)) (kept c.args.self.now.handles) c.args.self.now.moment
    (g.D.Disk.state c.args.disk.now) (g.D.Disk.state c.finish_apart.new.disk) c.args.self.now.index c.finish_apart.new.self (saying g.K.Sink c.args.self.now.reply c.args.sink.now) (c.in-Ok.ensures.looks.state told)

pub returns-in-Err-standing-clause-does : goal.returns-in-Err-standing-clause-does
returns-in-Err-standing-clause-does g c = λ told.
    evict_looks c.args.kb (Err c.look_fault-in-Err-standing.result) (λ f. f ≡ of_disk c.in-Err-standing.fault) c.look_fault-in-Err-standing.ensures.fault (λ f is sink. no_sink _ (sym is ∙ sink)) (kept c.args.self.now.handles) c.args.self.now.moment
    (g.D.Disk.state c.args.disk.now) (g.D.Disk.state c.standing.new.disk) c.args.self.now.index c.finish_apart.new.self (saying g.K.Sink c.args.self.now.reply c.args.sink.now)
    (c.in-Err-standing.ensures.looks.state told ∙ c.in-Ok.ensures.looks.state told)

pub returns-in-Err-standing-clause-stays : goal.returns-in-Err-standing-clause-stays
returns-in-Err-standing-clause-stays g c = λ noted told.
    look_stays (kept c.args.self.now.handles) c.args.self.now.moment (g.D.Disk.state c.args.disk.now) (g.D.Disk.state c.standing.new.disk) c.args.self.now.index c.finish_apart.new.self
    (c.in-Err-standing.ensures.looks.state told ∙ c.in-Ok.ensures.looks.state told) c.in-Ok.ensures.base c.in-Ok.ensures.rest (c.in-Ok.ensures.stays told)

pub returns-in-Err-standing-clause-faulted : goal.returns-in-Err-standing-clause-faulted
returns-in-Err-standing-clause-faulted g c = noted_disk c.in-Err-standing.fault c.look_fault-in-Err-standing.result c.look_fault-in-Err-standing.new.faulting c.look_fault-in-Err-standing.ensures.fault c.look_fault-in-Err-standing.ensures.faulting

pub remove_files-requires-clause-unused : goal.remove_files-requires-clause-unused
remove_files-requires-clause-unused g c =
    subst (AreUnused (kept c.args.self.now.handles)) (sym c.as_slice-2.ensures)
    (picked_unused c.finish_apart.new.self.map (kept c.args.self.now.handles) c.args.kb c.in_ok-names.names c.in_ok-names.ensures c.in-Ok-standing.files
    (subst (λ (ns : List Name). ArePicked ns c.in-Ok-standing.files) c.as_slice.ensures c.in-Ok-standing.ensures.picked))

pub remove_files-requires-clause-told : goal.remove_files-requires-clause-told
remove_files-requires-clause-told g c = λ told.
    files_hold (kept c.args.self.now.handles) (g.D.Disk.state c.args.disk.now) (g.D.Disk.state c.finish_apart.new.disk) (g.D.Disk.state c.standing.new.disk) c.as_slice.result.now c.as_slice-2.result.now
    (c.in-Ok.ensures.looks.state told) (c.in-Ok-standing.ensures.looks.state told) (c.as_slice-2.ensures ∙ c.in-Ok-standing.ensures.stand told) ((c.requires.told told).0, (c.requires.told told).1.stands)

pub returns-in_err-remove_files-clause-does : goal.returns-in_err-remove_files-clause-does
returns-in_err-remove_files-clause-does g c = λ told.
    evict_fails c.args.kb (kept c.args.self.now.handles) (kept c.remove_files.new.handles) c.args.self.now.moment
    (g.D.Disk.state c.args.disk.now) (g.D.Disk.state c.finish_apart.new.disk) (g.D.Disk.state c.remove_files.new.disk) c.args.self.now.index (record { map = c.finish_apart.new.self.map; update = c.in-Ok.ended }) c.in_ok-names.names c.remove_files.result
    (ended_apart (g.D.Disk.state c.args.disk.now) (g.D.Disk.state c.finish_apart.new.disk) c.args.self.now.index c.finish_apart.new.self.map c.in-Ok.ended (c.in-Ok.ensures.looks.state told)
    c.in-Ok.ensures.ended c.in-Ok.ensures.base (c.in-Ok.ensures.records told) (c.in-Ok.ensures.tells told))
    c.in_ok-names.ensures
    (removes c.in_ok-names.names c.as_slice.result.now c.in-Ok-standing.files c.as_slice-2.result.now c.remove_files.result (kept c.args.self.now.handles) (kept c.remove_files.new.handles)
    (g.D.Disk.state c.args.disk.now) (g.D.Disk.state c.finish_apart.new.disk) (g.D.Disk.state c.standing.new.disk) (g.D.Disk.state c.remove_files.new.disk)
    c.as_slice.ensures c.as_slice-2.ensures (c.in-Ok-standing.ensures.stand told) (c.in-Ok.ensures.looks.state told) (c.in-Ok-standing.ensures.looks.state told)
    (c.remove_files.ensures.dooms told) (c.remove_files.ensures.index told))
    c.from_residual-in_err-remove_files.result _ c.from_residual-in_err-remove_files.ensures.1 (λ f is sink. no_sink _ (sym is ∙ sink)) (record { map = c.finish_apart.new.self.map; update = c.in-Ok.ended }) (saying g.K.Sink c.args.self.now.reply c.args.sink.now)

pub returns-in_err-say_listing-clause-does : goal.returns-in_err-say_listing-clause-does
returns-in_err-say_listing-clause-does g c = λ told.
    let s0 = saying g.K.Sink c.args.self.now.reply c.args.sink.now in
    let s1 = saying g.K.Sink c.say_listing.new.reply c.say_listing.new.sink in
    evict_stops c.args.kb (kept c.args.self.now.handles) (kept c.remove_files.new.handles) c.args.self.now.moment
    (g.D.Disk.state c.args.disk.now) (g.D.Disk.state c.finish_apart.new.disk) (g.D.Disk.state c.remove_files.new.disk) c.args.self.now.index (record { map = c.finish_apart.new.self.map; update = c.in-Ok.ended }) c.in_ok-names.names (Ok tt)
    (ended_apart (g.D.Disk.state c.args.disk.now) (g.D.Disk.state c.finish_apart.new.disk) c.args.self.now.index c.finish_apart.new.self.map c.in-Ok.ended (c.in-Ok.ensures.looks.state told)
    c.in-Ok.ensures.ended c.in-Ok.ensures.base (c.in-Ok.ensures.records told) (c.in-Ok.ensures.tells told))
    c.in_ok-names.ensures
    (removes c.in_ok-names.names c.as_slice.result.now c.in-Ok-standing.files c.as_slice-2.result.now (Ok tt) (kept c.args.self.now.handles) (kept c.remove_files.new.handles)
    (g.D.Disk.state c.args.disk.now) (g.D.Disk.state c.finish_apart.new.disk) (g.D.Disk.state c.standing.new.disk) (g.D.Disk.state c.remove_files.new.disk)
    c.as_slice.ensures c.as_slice-2.ensures (c.in-Ok-standing.ensures.stand told) (c.in-Ok.ensures.looks.state told) (c.in-Ok-standing.ensures.looks.state told)
    (c.in_ok-remove_files.ensures.dooms told) (c.in_ok-remove_files.ensures.index told))
    tt refl c.forget.new.self
    (subst (λ (ns : List Name). Forgets ns c.finish_apart.new.self.map c.forget.new.self.map) c.as_slice-3.ensures c.forget.ensures.forgets) c.forget.ensures.rest
    s0 s1 c.requires.empty c.from_residual-in_err-say_listing.result _ c.from_residual-in_err-say_listing.ensures.1
    (subst (λ (ns : List Name). CutsIn s0 s1.taken (names_text ns)) c.as_slice-4.ensures c.in_err-say_listing.ensures.cut)

pub returns-clause-does : goal.returns-clause-does
returns-clause-does g c = λ told.
    let s0 = saying g.K.Sink c.args.self.now.reply c.args.sink.now in
    let s1 = saying g.K.Sink c.say_listing.new.reply c.say_listing.new.sink in
    evict_does c.args.kb (kept c.args.self.now.handles) (kept c.remove_files.new.handles) c.args.self.now.moment
    (g.D.Disk.state c.args.disk.now) (g.D.Disk.state c.finish_apart.new.disk) (g.D.Disk.state c.remove_files.new.disk) c.args.self.now.index (record { map = c.finish_apart.new.self.map; update = c.in-Ok.ended }) c.in_ok-names.names (Ok tt)
    (ended_apart (g.D.Disk.state c.args.disk.now) (g.D.Disk.state c.finish_apart.new.disk) c.args.self.now.index c.finish_apart.new.self.map c.in-Ok.ended (c.in-Ok.ensures.looks.state told)
    c.in-Ok.ensures.ended c.in-Ok.ensures.base (c.in-Ok.ensures.records told) (c.in-Ok.ensures.tells told))
    c.in_ok-names.ensures
    (removes c.in_ok-names.names c.as_slice.result.now c.in-Ok-standing.files c.as_slice-2.result.now (Ok tt) (kept c.args.self.now.handles) (kept c.remove_files.new.handles)
    (g.D.Disk.state c.args.disk.now) (g.D.Disk.state c.finish_apart.new.disk) (g.D.Disk.state c.standing.new.disk) (g.D.Disk.state c.remove_files.new.disk)
    c.as_slice.ensures c.as_slice-2.ensures (c.in-Ok-standing.ensures.stand told) (c.in-Ok.ensures.looks.state told) (c.in-Ok-standing.ensures.looks.state told)
    (c.in_ok-remove_files.ensures.dooms told) (c.in_ok-remove_files.ensures.index told))
    tt refl c.forget.new.self
    (subst (λ (ns : List Name). Forgets ns c.finish_apart.new.self.map c.forget.new.self.map) c.as_slice-3.ensures c.forget.ensures.forgets) c.forget.ensures.rest
    s0 s1 c.requires.empty
    (subst (λ (ns : List Name). SaysMore s0 s1 (names_text ns)) c.as_slice-4.ensures c.in_ok-say_listing.ensures.says)

pub returns-in_err-say_listing-clause-grows : goal.returns-in_err-say_listing-clause-grows
returns-in_err-say_listing-clause-grows g c =
    cuts_takes (saying g.K.Sink c.args.self.now.reply c.args.sink.now) (g.K.Sink.taken c.say_listing.new.sink) _ c.requires.empty c.in_err-say_listing.ensures.cut

pub returns-clause-grows : goal.returns-clause-grows
returns-clause-grows g c =
    says_takes (saying g.K.Sink c.args.self.now.reply c.args.sink.now) (saying g.K.Sink c.say_listing.new.reply c.say_listing.new.sink) _ c.requires.empty c.in_ok-say_listing.ensures.says

pub returns-in_err-say_listing-clause-evicts : goal.returns-in_err-say_listing-clause-evicts
returns-in_err-say_listing-clause-evicts g c = λ had told.
    evict_leaves c.args.kb (kept c.args.self.now.handles) (kept c.remove_files.new.handles) c.args.self.now.moment
    (g.D.Disk.state c.args.disk.now) (g.D.Disk.state c.finish_apart.new.disk) (g.D.Disk.state c.remove_files.new.disk) c.args.self.now.index (record { map = c.finish_apart.new.self.map; update = c.in-Ok.ended }) c.in_ok-names.names (Ok tt)
    (ended_apart (g.D.Disk.state c.args.disk.now) (g.D.Disk.state c.finish_apart.new.disk) c.args.self.now.index c.finish_apart.new.self.map c.in-Ok.ended (c.in-Ok.ensures.looks.state told)
    c.in-Ok.ensures.ended c.in-Ok.ensures.base (c.in-Ok.ensures.records told) (c.in-Ok.ensures.tells told))
    c.in_ok-names.ensures
    (removes c.in_ok-names.names c.as_slice.result.now c.in-Ok-standing.files c.as_slice-2.result.now (Ok tt) (kept c.args.self.now.handles) (kept c.remove_files.new.handles)
    (g.D.Disk.state c.args.disk.now) (g.D.Disk.state c.finish_apart.new.disk) (g.D.Disk.state c.standing.new.disk) (g.D.Disk.state c.remove_files.new.disk)
    c.as_slice.ensures c.as_slice-2.ensures (c.in-Ok-standing.ensures.stand told) (c.in-Ok.ensures.looks.state told) (c.in-Ok-standing.ensures.looks.state told)
    (c.in_ok-remove_files.ensures.dooms told) (c.in_ok-remove_files.ensures.index told))
    c.forget.new.self (subst (λ (ns : List Name). Forgets ns c.finish_apart.new.self.map c.forget.new.self.map) c.as_slice-3.ensures c.forget.ensures.forgets)

pub returns-clause-evicts : goal.returns-clause-evicts
returns-clause-evicts g c = λ had told.
    evict_leaves c.args.kb (kept c.args.self.now.handles) (kept c.remove_files.new.handles) c.args.self.now.moment
    (g.D.Disk.state c.args.disk.now) (g.D.Disk.state c.finish_apart.new.disk) (g.D.Disk.state c.remove_files.new.disk) c.args.self.now.index (record { map = c.finish_apart.new.self.map; update = c.in-Ok.ended }) c.in_ok-names.names (Ok tt)
    (ended_apart (g.D.Disk.state c.args.disk.now) (g.D.Disk.state c.finish_apart.new.disk) c.args.self.now.index c.finish_apart.new.self.map c.in-Ok.ended (c.in-Ok.ensures.looks.state told)
    c.in-Ok.ensures.ended c.in-Ok.ensures.base (c.in-Ok.ensures.records told) (c.in-Ok.ensures.tells told))
    c.in_ok-names.ensures
    (removes c.in_ok-names.names c.as_slice.result.now c.in-Ok-standing.files c.as_slice-2.result.now (Ok tt) (kept c.args.self.now.handles) (kept c.remove_files.new.handles)
    (g.D.Disk.state c.args.disk.now) (g.D.Disk.state c.finish_apart.new.disk) (g.D.Disk.state c.standing.new.disk) (g.D.Disk.state c.remove_files.new.disk)
    c.as_slice.ensures c.as_slice-2.ensures (c.in-Ok-standing.ensures.stand told) (c.in-Ok.ensures.looks.state told) (c.in-Ok-standing.ensures.looks.state told)
    (c.in_ok-remove_files.ensures.dooms told) (c.in_ok-remove_files.ensures.index told))
    c.forget.new.self (subst (λ (ns : List Name). Forgets ns c.finish_apart.new.self.map c.forget.new.self.map) c.as_slice-3.ensures c.forget.ensures.forgets)

pub returns-in-Err-clause-unsynced : goal.returns-in-Err-clause-unsynced
returns-in-Err-clause-unsynced g c = λ told. same_unsynced (c.in-Err.ensures.looks.state told)

pub returns-in_err-names-clause-unsynced : goal.returns-in_err-names-clause-unsynced
returns-in_err-names-clause-unsynced g c = λ told. same_unsynced (c.in-Ok.ensures.looks.state told)

pub returns-in-Err-standing-clause-unsynced : goal.returns-in-Err-standing-clause-unsynced
returns-in-Err-standing-clause-unsynced g c = λ told. same_unsynced (c.in-Err-standing.ensures.looks.state told ∙ c.in-Ok.ensures.looks.state told)

pub returns-in_err-remove_files-clause-unsynced : goal.returns-in_err-remove_files-clause-unsynced
returns-in_err-remove_files-clause-unsynced g c = λ told. then_unsynced _ _ _ (same_unsynced (c.in-Ok-standing.ensures.looks.state told ∙ c.in-Ok.ensures.looks.state told)) (c.remove_files.ensures.unsynced told)

pub returns-in_err-say_listing-clause-unsynced : goal.returns-in_err-say_listing-clause-unsynced
returns-in_err-say_listing-clause-unsynced g c = λ told. then_unsynced _ _ _ (same_unsynced (c.in-Ok-standing.ensures.looks.state told ∙ c.in-Ok.ensures.looks.state told)) (c.remove_files.ensures.unsynced told)

pub returns-clause-unsynced : goal.returns-clause-unsynced
returns-clause-unsynced g c = λ told. then_unsynced _ _ _ (same_unsynced (c.in-Ok-standing.ensures.looks.state told ∙ c.in-Ok.ensures.looks.state told)) (c.remove_files.ensures.unsynced told)

pub returns-in-Err-clause-takes : goal.returns-in-Err-clause-takes
returns-in-Err-clause-takes g c = λ told. takes_same (c.in-Err.ensures.looks.state told)

pub returns-in_err-names-clause-takes : goal.returns-in_err-names-clause-takes
returns-in_err-names-clause-takes g c = λ told. takes_same (c.in-Ok.ensures.looks.state told)

pub returns-in-Err-standing-clause-takes : goal.returns-in-Err-standing-clause-takes
returns-in-Err-standing-clause-takes g c = λ told. takes_same (c.in-Err-standing.ensures.looks.state told ∙ c.in-Ok.ensures.looks.state told)

pub returns-in_err-remove_files-clause-takes : goal.returns-in_err-remove_files-clause-takes
returns-in_err-remove_files-clause-takes g c = λ told. takes_then _ _ _ (takes_same (c.in-Ok-standing.ensures.looks.state told ∙ c.in-Ok.ensures.looks.state told)) (c.remove_files.ensures.takes told)

pub returns-in_err-say_listing-clause-takes : goal.returns-in_err-say_listing-clause-takes
returns-in_err-say_listing-clause-takes g c = λ told. takes_then _ _ _ (takes_same (c.in-Ok-standing.ensures.looks.state told ∙ c.in-Ok.ensures.looks.state told)) (c.remove_files.ensures.takes told)

pub returns-clause-takes : goal.returns-clause-takes
returns-clause-takes g c = λ told. takes_then _ _ _ (takes_same (c.in-Ok-standing.ensures.looks.state told ∙ c.in-Ok.ensures.looks.state told)) (c.remove_files.ensures.takes told)

pub returns-in-Err-clause-index : goal.returns-in-Err-clause-index
returns-in-Err-clause-index g c = λ told. same_left (c.in-Err.ensures.looks.state told)

pub returns-in_err-names-clause-index : goal.returns-in_err-names-clause-index
returns-in_err-names-clause-index g c = λ told. same_left (c.in-Ok.ensures.looks.state told)

pub returns-in-Err-standing-clause-index : goal.returns-in-Err-standing-clause-index
returns-in-Err-standing-clause-index g c = λ told. same_left (c.in-Err-standing.ensures.looks.state told ∙ c.in-Ok.ensures.looks.state told)
