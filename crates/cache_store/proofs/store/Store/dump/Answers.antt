use Rattle.std.proofs.Common.{◌≡◌, ◌∙◌, [], Err, List, subst, sym}
use Rattle.cache_base.specs.declared.name.Name.{Name}
use Rattle.cache_check.specs.Checks.{AllStand, files_of}
use Rattle.cache_check.proofs.Tables.{entries_stand}
use Rattle.cache_export.specs.Dump.{head}
use Rattle.disk_theory.specs.Listing.{AreEntries}
use Rattle.disk_theory.specs.State.{State}
use Rattle.file_handles.specs.Cache.{cache_at}
use Rattle.file_handles.specs.Kept.{kept}
use Rattle.cache_store.specs.Dumping.{items_from}
use Rattle.cache_store.specs.Faults.{of_disk}
use Rattle.cache_replies.specs.Said.{saying}
use Rattle.cache_replies.specs.Saying.{SaysMore, StopsIn}
use Rattle.memory_index.specs.declared.memory_index.MemoryIndex.{MemoryIndex}
use Rattle.cache_store.proofs.Dumping.DumpDoes.{all_said, cuts_sent, does_keeping, dump_does, dump_fails, dump_stops, end_cut, front_sent, items_cut, sent_says}
use Rattle.cache_store.proofs.Records.ListDoes.{no_sink}
use Rattle.cache_replies.proofs.SayingLaws.{cuts_front}
use Rattle.cache_store.proofs.Performing.Stays.{ended_apart, look_stays, noted_disk}
use Rattle.cache_store.proofs.Saying.TakenMore.{cuts_takes, says_takes}
use Rattle.cache_store.proofs.store.Store.dump.Goals as goal

pub returns-in-Err-clause-does : goal.returns-in-Err-clause-does
returns-in-Err-clause-does g c = λ told.
    dump_fails (Err c.look_fault.result) (λ f. f ≡ of_disk c.in-Err.fault) c.look_fault.ensures.fault (λ f is sink. no_sink _ (sym is ∙ sink)) (kept c.args.self.now.handles) c.args.self.now.moment
    (g.D.Disk.state c.args.disk.now) (g.D.Disk.state c.finish_apart.new.disk) c.args.self.now.index c.finish_apart.new.self (saying g.K.Sink c.args.self.now.reply c.args.sink.now) (c.in-Err.ensures.looks.state told)

pub returns-in-Err-clause-stays : goal.returns-in-Err-clause-stays
returns-in-Err-clause-stays g c = λ noted told.
    look_stays (kept c.args.self.now.handles) c.args.self.now.moment (g.D.Disk.state c.args.disk.now) (g.D.Disk.state c.finish_apart.new.disk) c.args.self.now.index c.finish_apart.new.self
    (c.in-Err.ensures.looks.state told) c.in-Err.ensures.base c.in-Err.ensures.rest (c.in-Err.ensures.stays told)

pub returns-in-Err-clause-faulted : goal.returns-in-Err-clause-faulted
returns-in-Err-clause-faulted g c = noted_disk c.in-Err.fault c.look_fault.result c.look_fault.new.faulting c.look_fault.ensures.fault c.look_fault.ensures.faulting

pub returns-in-Err-entries-clause-does : goal.returns-in-Err-entries-clause-does
returns-in-Err-entries-clause-does g c = λ told.
    dump_fails (Err c.look_fault-in-Err-entries.result) (λ f. f ≡ of_disk c.in-Err-entries.fault) c.look_fault-in-Err-entries.ensures.fault (λ f is sink. no_sink _ (sym is ∙ sink)) (kept c.args.self.now.handles) c.args.self.now.moment
    (g.D.Disk.state c.args.disk.now) (g.D.Disk.state c.entries.new.self) c.args.self.now.index c.finish_apart.new.self (saying g.K.Sink c.args.self.now.reply c.args.sink.now)
    (c.in-Err-entries.ensures.state told ∙ c.in-Ok.ensures.looks.state told)

pub returns-in-Err-entries-clause-stays : goal.returns-in-Err-entries-clause-stays
returns-in-Err-entries-clause-stays g c = λ noted told.
    look_stays (kept c.args.self.now.handles) c.args.self.now.moment (g.D.Disk.state c.args.disk.now) (g.D.Disk.state c.entries.new.self) c.args.self.now.index c.finish_apart.new.self
    (c.in-Err-entries.ensures.state told ∙ c.in-Ok.ensures.looks.state told) c.in-Ok.ensures.base c.in-Ok.ensures.rest (c.in-Ok.ensures.stays told)

pub returns-in_err-put-clause-does : goal.returns-in_err-put-clause-does
returns-in_err-put-clause-does g c = λ told.
    let s = g.D.Disk.state c.args.disk.now in
    let looked = c.in-Ok.ensures.looks.state told in
    let was = saying g.K.Sink c.args.self.now.reply c.args.sink.now in
    let new : MemoryIndex = record { map = c.finish_apart.new.self.map; update = c.in-Ok.ended } in
    dump_stops (kept c.args.self.now.handles) c.args.self.now.moment s (g.D.Disk.state c.entries.new.self) c.args.self.now.index new
    (ended_apart s (g.D.Disk.state c.entries.new.self) c.args.self.now.index c.finish_apart.new.self.map c.in-Ok.ended (c.in-Ok-entries.ensures.state told ∙ looked)
    c.in-Ok.ensures.ended c.in-Ok.ensures.base (c.in-Ok.ensures.records told) (c.in-Ok.ensures.tells told))
    c.entries.new.out c.in-Ok-entries.ensures.sorted (subst (λ (t : State). AreEntries t c.entries.new.out) looked (c.in-Ok-entries.ensures.names told))
    was (saying g.K.Sink c.put.new.self c.put.new.sink) c.requires.empty c.from_residual.result _ c.from_residual.ensures.1
    (cuts_front was (g.K.Sink.taken c.put.new.sink) head _ c.in_err-put.ensures.cut)

pub returns-in_err-put-clause-grows : goal.returns-in_err-put-clause-grows
returns-in_err-put-clause-grows g c = λ told.
    cuts_takes (saying g.K.Sink c.args.self.now.reply c.args.sink.now) (g.K.Sink.taken c.put.new.sink) head c.requires.empty c.in_err-put.ensures.cut

pub returns-in_err-send-clause-does : goal.returns-in_err-send-clause-does
returns-in_err-send-clause-does g c = λ told.
    let s = g.D.Disk.state c.args.disk.now in
    let looked = c.in-Ok.ensures.looks.state told in
    let was = saying g.K.Sink c.args.self.now.reply c.args.sink.now in
    let new : MemoryIndex = record { map = c.finish_apart.new.self.map; update = c.in-Ok.ended } in
    dump_stops (kept c.args.self.now.handles) c.args.self.now.moment s (g.D.Disk.state c.entries.new.self) c.args.self.now.index new
    (ended_apart s (g.D.Disk.state c.entries.new.self) c.args.self.now.index c.finish_apart.new.self.map c.in-Ok.ended (c.in-Ok-entries.ensures.state told ∙ looked)
    c.in-Ok.ensures.ended c.in-Ok.ensures.base (c.in-Ok.ensures.records told) (c.in-Ok.ensures.tells told))
    c.entries.new.out c.in-Ok-entries.ensures.sorted (subst (λ (t : State). AreEntries t c.entries.new.out) looked (c.in-Ok-entries.ensures.names told))
    was (saying g.K.Sink c.send.new.self c.send.new.sink) c.requires.empty c.from_residual-in_err-send.result _ c.from_residual-in_err-send.ensures.1
    (cuts_sent was (saying g.K.Sink c.put.new.self c.put.new.sink) (g.K.Sink.taken c.send.new.sink) head _ c.in_ok-put.ensures.said c.in_err-send.ensures.cut)

pub returns-in_err-send-clause-grows : goal.returns-in_err-send-clause-grows
returns-in_err-send-clause-grows g c = λ told.
    let was = saying g.K.Sink c.args.self.now.reply c.args.sink.now in
    cuts_takes was (g.K.Sink.taken c.send.new.sink) _ c.requires.empty
    (cuts_sent was (saying g.K.Sink c.put.new.self c.put.new.sink) (g.K.Sink.taken c.send.new.sink) head [] c.in_ok-put.ensures.said c.in_err-send.ensures.cut)

pub say_items-requires : goal.say_items-requires
say_items-requires g c = record {
  told = λ told.
      let stand : AllStand (g.D.Disk.state c.entries.new.self) c.entries.new.out =
      entries_stand (g.D.Disk.state c.entries.new.self) c.entries.new.out (subst (λ (t : State). AreEntries t c.entries.new.out) (sym (c.in-Ok-entries.ensures.state told)) (c.in-Ok-entries.ensures.names told)) in
      subst (AllStand (g.D.Disk.state c.entries.new.self)) (sym c.as_slice.ensures) stand;
}

pub returns-in_err-say_items-clause-does : goal.returns-in_err-say_items-clause-does
returns-in_err-say_items-clause-does g c = λ told.
    let s = g.D.Disk.state c.args.disk.now in
    let looked = c.in-Ok.ensures.looks.state told in
    let listed = c.in-Ok-entries.ensures.state told ∙ looked in
    let was = saying g.K.Sink c.args.self.now.reply c.args.sink.now in
    let put = saying g.K.Sink c.put.new.self c.put.new.sink in
    let sent = saying g.K.Sink c.send.new.self c.send.new.sink in
    let out = g.K.Sink.taken c.say_items.new.sink in
    let new : MemoryIndex = record { map = c.finish_apart.new.self.map; update = c.in-Ok.ended } in
    does_keeping c.say_items.ensures.kept
    (dump_stops (kept c.args.self.now.handles) c.args.self.now.moment s (g.D.Disk.state c.say_items.new.disk) c.args.self.now.index new
    (ended_apart s (g.D.Disk.state c.say_items.new.disk) c.args.self.now.index c.finish_apart.new.self.map c.in-Ok.ended (c.in_err-say_items.ensures.looks.state told ∙ listed)
    c.in-Ok.ensures.ended c.in-Ok.ensures.base (c.in-Ok.ensures.records told) (c.in-Ok.ensures.tells told))
    c.entries.new.out c.in-Ok-entries.ensures.sorted (subst (λ (t : State). AreEntries t c.entries.new.out) looked (c.in-Ok-entries.ensures.names told))
    was (saying g.K.Sink c.say_items.new.reply c.say_items.new.sink) c.requires.empty c.from_residual-in_err-say_items.result _ c.from_residual-in_err-say_items.ensures.1
    (items_cut was put sent s c.entries.new.out c.in_ok-put.ensures.said (sent_says put sent c.in_ok-send.ensures.held c.in_ok-send.ensures.said) out
    (subst (λ (ns : List Name). StopsIn sent out (items_from 8 (files_of s ns))) c.as_slice.ensures
    (subst (λ (t : State). StopsIn sent out (items_from 8 (files_of t c.as_slice.result.now))) listed (c.in_err-say_items.ensures.stops told)))))

pub returns-in_err-say_items-clause-grows : goal.returns-in_err-say_items-clause-grows
returns-in_err-say_items-clause-grows g c = λ told.
    let s = g.D.Disk.state c.args.disk.now in
    let listed = c.in-Ok-entries.ensures.state told ∙ c.in-Ok.ensures.looks.state told in
    let was = saying g.K.Sink c.args.self.now.reply c.args.sink.now in
    let put = saying g.K.Sink c.put.new.self c.put.new.sink in
    let sent = saying g.K.Sink c.send.new.self c.send.new.sink in
    let out = g.K.Sink.taken c.say_items.new.sink in
    cuts_takes was out _ c.requires.empty
    (items_cut was put sent s c.as_slice.result.now c.in_ok-put.ensures.said (sent_says put sent c.in_ok-send.ensures.held c.in_ok-send.ensures.said) out
    (subst (λ (t : State). StopsIn sent out (items_from 8 (files_of t c.as_slice.result.now))) listed (c.in_err-say_items.ensures.stops told)))

pub returns-in_err-say_items-clause-front : goal.returns-in_err-say_items-clause-front
returns-in_err-say_items-clause-front g c = λ calm failed told.
    let was = saying g.K.Sink c.args.self.now.reply c.args.sink.now in
    let put = saying g.K.Sink c.put.new.self c.put.new.sink in
    let sent = saying g.K.Sink c.send.new.self c.send.new.sink in
    front_sent was put sent (g.D.Disk.state c.args.disk.now) c.entries.new.out c.in_ok-put.ensures.said (sent_says put sent c.in_ok-send.ensures.held c.in_ok-send.ensures.said)
    c.requires.empty c.in_ok-send.ensures.held (g.K.Sink.taken c.say_items.new.sink) _ (c.in_err-say_items.ensures.stops told)
    (cache_at (kept c.args.self.now.handles) (g.D.Disk.state c.args.disk.now))

pub returns-in_err-put-2-clause-does : goal.returns-in_err-put-2-clause-does
returns-in_err-put-2-clause-does g c = λ told.
    let s = g.D.Disk.state c.args.disk.now in
    let looked = c.in-Ok.ensures.looks.state told in
    let listed = c.in-Ok-entries.ensures.state told ∙ looked in
    let was = saying g.K.Sink c.args.self.now.reply c.args.sink.now in
    let put = saying g.K.Sink c.put.new.self c.put.new.sink in
    let sent = saying g.K.Sink c.send.new.self c.send.new.sink in
    let said = saying g.K.Sink c.say_items.new.reply c.say_items.new.sink in
    let new : MemoryIndex = record { map = c.finish_apart.new.self.map; update = c.in-Ok.ended } in
    does_keeping c.say_items.ensures.kept
    (dump_stops (kept c.args.self.now.handles) c.args.self.now.moment s (g.D.Disk.state c.say_items.new.disk) c.args.self.now.index new
    (ended_apart s (g.D.Disk.state c.say_items.new.disk) c.args.self.now.index c.finish_apart.new.self.map c.in-Ok.ended (c.in_ok-say_items.ensures.looks.state told ∙ listed)
    c.in-Ok.ensures.ended c.in-Ok.ensures.base (c.in-Ok.ensures.records told) (c.in-Ok.ensures.tells told))
    c.entries.new.out c.in-Ok-entries.ensures.sorted (subst (λ (t : State). AreEntries t c.entries.new.out) looked (c.in-Ok-entries.ensures.names told))
    was (saying g.K.Sink c.put-2.new.self c.put-2.new.sink) c.requires.empty c.from_residual-in_err-put-2.result _ c.from_residual-in_err-put-2.ensures.1
    (end_cut was put sent s c.entries.new.out c.in_ok-put.ensures.said (sent_says put sent c.in_ok-send.ensures.held c.in_ok-send.ensures.said) said
    (subst (λ (ns : List Name). SaysMore sent said (items_from 8 (files_of s ns))) c.as_slice.ensures
    (subst (λ (t : State). SaysMore sent said (items_from 8 (files_of t c.as_slice.result.now))) listed (c.in_ok-say_items.ensures.says told)))
    (g.K.Sink.taken c.put-2.new.sink) c.in_err-put-2.ensures.cut))

pub returns-in_err-put-2-clause-grows : goal.returns-in_err-put-2-clause-grows
returns-in_err-put-2-clause-grows g c = λ told.
    let s = g.D.Disk.state c.args.disk.now in
    let listed = c.in-Ok-entries.ensures.state told ∙ c.in-Ok.ensures.looks.state told in
    let was = saying g.K.Sink c.args.self.now.reply c.args.sink.now in
    let put = saying g.K.Sink c.put.new.self c.put.new.sink in
    let sent = saying g.K.Sink c.send.new.self c.send.new.sink in
    let said = saying g.K.Sink c.say_items.new.reply c.say_items.new.sink in
    cuts_takes was (g.K.Sink.taken c.put-2.new.sink) _ c.requires.empty
    (end_cut was put sent s c.as_slice.result.now c.in_ok-put.ensures.said (sent_says put sent c.in_ok-send.ensures.held c.in_ok-send.ensures.said) said
    (subst (λ (t : State). SaysMore sent said (items_from 8 (files_of t c.as_slice.result.now))) listed (c.in_ok-say_items.ensures.says told))
    (g.K.Sink.taken c.put-2.new.sink) c.in_err-put-2.ensures.cut)

pub returns-clause-does : goal.returns-clause-does
returns-clause-does g c = λ told.
    let s = g.D.Disk.state c.args.disk.now in
    let looked = c.in-Ok.ensures.looks.state told in
    let listed = c.in-Ok-entries.ensures.state told ∙ looked in
    let was = saying g.K.Sink c.args.self.now.reply c.args.sink.now in
    let put = saying g.K.Sink c.put.new.self c.put.new.sink in
    let sent = saying g.K.Sink c.send.new.self c.send.new.sink in
    let said = saying g.K.Sink c.say_items.new.reply c.say_items.new.sink in
    let now = saying g.K.Sink c.put-2.new.self c.put-2.new.sink in
    let new : MemoryIndex = record { map = c.finish_apart.new.self.map; update = c.in-Ok.ended } in
    does_keeping c.say_items.ensures.kept
    (dump_does (kept c.args.self.now.handles) c.args.self.now.moment s (g.D.Disk.state c.say_items.new.disk) c.args.self.now.index new
    (ended_apart s (g.D.Disk.state c.say_items.new.disk) c.args.self.now.index c.finish_apart.new.self.map c.in-Ok.ended (c.in_ok-say_items.ensures.looks.state told ∙ listed)
    c.in-Ok.ensures.ended c.in-Ok.ensures.base (c.in-Ok.ensures.records told) (c.in-Ok.ensures.tells told))
    c.entries.new.out c.in-Ok-entries.ensures.sorted (subst (λ (t : State). AreEntries t c.entries.new.out) looked (c.in-Ok-entries.ensures.names told))
    was now c.requires.empty
    (all_said was put sent s c.entries.new.out c.in_ok-put.ensures.said (sent_says put sent c.in_ok-send.ensures.held c.in_ok-send.ensures.said) said
    (subst (λ (ns : List Name). SaysMore sent said (items_from 8 (files_of s ns))) c.as_slice.ensures
    (subst (λ (t : State). SaysMore sent said (items_from 8 (files_of t c.as_slice.result.now))) listed (c.in_ok-say_items.ensures.says told)))
    now c.in_ok-put-2.ensures.said))

pub returns-clause-grows : goal.returns-clause-grows
returns-clause-grows g c = λ told.
    let s = g.D.Disk.state c.args.disk.now in
    let listed = c.in-Ok-entries.ensures.state told ∙ c.in-Ok.ensures.looks.state told in
    let was = saying g.K.Sink c.args.self.now.reply c.args.sink.now in
    let put = saying g.K.Sink c.put.new.self c.put.new.sink in
    let sent = saying g.K.Sink c.send.new.self c.send.new.sink in
    let said = saying g.K.Sink c.say_items.new.reply c.say_items.new.sink in
    let now = saying g.K.Sink c.put-2.new.self c.put-2.new.sink in
    says_takes was now _ c.requires.empty
    (all_said was put sent s c.as_slice.result.now c.in_ok-put.ensures.said (sent_says put sent c.in_ok-send.ensures.held c.in_ok-send.ensures.said) said
    (subst (λ (t : State). SaysMore sent said (items_from 8 (files_of t c.as_slice.result.now))) listed (c.in_ok-say_items.ensures.says told))
    now c.in_ok-put-2.ensures.said)
