use Rattle.std.proofs.Common.{◌≡◌, ◌∙◌, List, Err, subst, sym}
use Rattle.cache_store.specs.Faults.{of_disk}
use Rattle.cache_theory.specs.Text.{records_text}
use Rattle.file_handles.specs.Kept.{kept}
use Rattle.index_record.specs.declared.record.IndexRecord.{IndexRecord}
use Rattle.cache_replies.specs.Said.{saying}
use Rattle.cache_replies.specs.Saying.{CutsIn, SaysMore}
use Rattle.cache_store.proofs.Records.ListDoes.{list_does, list_fails, list_stops, list_unsaid, no_sink}
use Rattle.cache_store.proofs.Performing.Stays.{ended_apart, look_stays, noted_exactly}
use Rattle.cache_store.proofs.Saying.TakenMore.{cuts_takes, says_takes}
use Rattle.cache_store.proofs.store.Store.say_list.Goals as goal

pub returns-in-Err-clause-does : goal.returns-in-Err-clause-does
returns-in-Err-clause-does g c = λ told.
    list_fails (Err c.look_fault.result) (λ f. f ≡ of_disk c.in-Err.fault) c.look_fault.ensures.fault (λ f is sink. no_sink _ (sym is ∙ sink)) (kept c.args.self.now.handles) c.args.self.now.moment
    (g.D.Disk.state c.args.disk.now) (g.D.Disk.state c.finish_apart.new.disk) c.args.self.now.index c.finish_apart.new.self (saying g.K.Sink c.args.self.now.reply c.args.sink.now) (c.in-Err.ensures.looks.state told)

pub returns-in-Err-clause-stays : goal.returns-in-Err-clause-stays
returns-in-Err-clause-stays g c = λ noted told.
    look_stays (kept c.args.self.now.handles) c.args.self.now.moment (g.D.Disk.state c.args.disk.now) (g.D.Disk.state c.finish_apart.new.disk) c.args.self.now.index c.finish_apart.new.self
    (c.in-Err.ensures.looks.state told) c.in-Err.ensures.base c.in-Err.ensures.rest (c.in-Err.ensures.stays told)

pub returns-in-Err-clause-faulted : goal.returns-in-Err-clause-faulted
returns-in-Err-clause-faulted g c = noted_exactly c.in-Err.fault c.look_fault.result c.look_fault.new.faulting c.look_fault.ensures.fault c.look_fault.ensures.faulting

pub returns-in_err-records-clause-does : goal.returns-in_err-records-clause-does
returns-in_err-records-clause-does g c = λ told.
    list_unsaid (kept c.args.self.now.handles) c.args.self.now.moment (g.D.Disk.state c.args.disk.now) (g.D.Disk.state c.finish_apart.new.disk) c.args.self.now.index (record { map = c.finish_apart.new.self.map; update = c.in-Ok.ended })
    (ended_apart (g.D.Disk.state c.args.disk.now) (g.D.Disk.state c.finish_apart.new.disk) c.args.self.now.index c.finish_apart.new.self.map c.in-Ok.ended (c.in-Ok.ensures.looks.state told)
    c.in-Ok.ensures.ended c.in-Ok.ensures.base (c.in-Ok.ensures.records told) (c.in-Ok.ensures.tells told))
    c.from_residual.result _ (saying g.K.Sink c.args.self.now.reply c.args.sink.now) c.from_residual.ensures.1

pub returns-in_err-say_listing-clause-does : goal.returns-in_err-say_listing-clause-does
returns-in_err-say_listing-clause-does g c = λ told.
    let s0 = saying g.K.Sink c.args.self.now.reply c.args.sink.now in
    let s1 = saying g.K.Sink c.say_listing.new.reply c.say_listing.new.sink in
    list_stops (kept c.args.self.now.handles) c.args.self.now.moment (g.D.Disk.state c.args.disk.now) (g.D.Disk.state c.finish_apart.new.disk) c.args.self.now.index (record { map = c.finish_apart.new.self.map; update = c.in-Ok.ended })
    (ended_apart (g.D.Disk.state c.args.disk.now) (g.D.Disk.state c.finish_apart.new.disk) c.args.self.now.index c.finish_apart.new.self.map c.in-Ok.ended (c.in-Ok.ensures.looks.state told)
    c.in-Ok.ensures.ended c.in-Ok.ensures.base (c.in-Ok.ensures.records told) (c.in-Ok.ensures.tells told))
    c.in_ok-records.records c.in_ok-records.ensures.known c.in_ok-records.ensures.by_name s0 s1 c.requires.empty
    c.from_residual-in_err-say_listing.result _ c.from_residual-in_err-say_listing.ensures.1
    (subst (λ (rs : List IndexRecord). CutsIn s0 s1.taken (records_text rs)) c.as_slice.ensures c.in_err-say_listing.ensures.cut)

pub returns-clause-does : goal.returns-clause-does
returns-clause-does g c = λ told.
    let s0 = saying g.K.Sink c.args.self.now.reply c.args.sink.now in
    let s1 = saying g.K.Sink c.say_listing.new.reply c.say_listing.new.sink in
    list_does (kept c.args.self.now.handles) c.args.self.now.moment (g.D.Disk.state c.args.disk.now) (g.D.Disk.state c.finish_apart.new.disk) c.args.self.now.index (record { map = c.finish_apart.new.self.map; update = c.in-Ok.ended })
    (ended_apart (g.D.Disk.state c.args.disk.now) (g.D.Disk.state c.finish_apart.new.disk) c.args.self.now.index c.finish_apart.new.self.map c.in-Ok.ended (c.in-Ok.ensures.looks.state told)
    c.in-Ok.ensures.ended c.in-Ok.ensures.base (c.in-Ok.ensures.records told) (c.in-Ok.ensures.tells told))
    c.in_ok-records.records c.in_ok-records.ensures.known c.in_ok-records.ensures.by_name s0 s1 c.requires.empty
    (subst (λ (rs : List IndexRecord). SaysMore s0 s1 (records_text rs)) c.as_slice.ensures c.in_ok-say_listing.ensures.says)

pub returns-in_err-say_listing-clause-grows : goal.returns-in_err-say_listing-clause-grows
returns-in_err-say_listing-clause-grows g c =
    cuts_takes (saying g.K.Sink c.args.self.now.reply c.args.sink.now) (g.K.Sink.taken c.say_listing.new.sink) _ c.requires.empty c.in_err-say_listing.ensures.cut

pub returns-clause-grows : goal.returns-clause-grows
returns-clause-grows g c =
    says_takes (saying g.K.Sink c.args.self.now.reply c.args.sink.now) (saying g.K.Sink c.say_listing.new.reply c.say_listing.new.sink) _ c.requires.empty c.in_ok-say_listing.ensures.says
