use Rattle.std.proofs.Common.{◌≡◌, ℕ, List, IfOk, IsTrue, true, refl, sym, ap, subst, ◌∙◌}
use Rattle.std.specs.Prelude.{IfSome}
use Rattle.cache_store.specs.Faulting.{has_failed_look}
use Rattle.cache_store.proofs.Performing.Stays.{err_failed_look, on_failed_look, parts_stay}
use Rattle.cache_script.specs.Command.{command_of}
use Rattle.cache_theory.specs.Command.Command.{At, Append, ClearOrigin, Close, Create, Doom, ElementOf, Evict, Finish, Flush, Get, GetAlt, HasEntry, ListRecords, MainBody, OpenKey, Pin, PutAlt, ReadPart, Rebuild, Resume, SetElement, StepUpdate, Unpin, UnsetElement, UpdateState, UseEntry, Verify, FinishAs, Dump}
use Rattle.cache_theory.specs.Given.{IsGiven}
use Rattle.cache_replies.specs.Answers.{outcome_in}
use Rattle.cache_store.specs.Clearing.{LeavesUncleared, origin_cleared}
use Rattle.cache_store.specs.Performing.{HadEffect}
use Rattle.cache_theory.specs.Command.{Command}
use Rattle.context_clear.specs.Mark.{mark_of}
use Rattle.disk_theory.specs.State.{standing}
use Rattle.disk_theory.specs.declared.place.Place.TheVariants.{Clear}
use Rattle.cache_store.specs.Evicting.{LeavesOthers}
use Rattle.cache_store.specs.Reads.{AreHeld, LastIsFirst}
use Rattle.cache_replies.specs.Said.{saying}
use Rattle.cache_store.specs.StoppedClearing.{ClearsUnderMark}
use Rattle.cache_store.specs.Session.{open_of, session}
use Rattle.cache_replies.specs.declared.verdict.Verdict.TheVariants as outcome
use Rattle.file_handles.proofs.Reading.ReadKept.{read_keeps}
use Rattle.file_handles.specs.Kept.{kept}
use Rattle.cache_store.proofs.Clearing.ClearCommands.{resumed_clears}
use Rattle.cache_store.proofs.Evicting.EvictDoes.{kb_of}
use Rattle.cache_store.proofs.Records.LearntAchieves.{append_achieves, close_achieves, create_achieves, doom_achieves, finish_achieves, open_achieves, pin_achieves, put_achieves, set_achieves, unpin_achieves, unset_achieves, use_achieves}
use Rattle.cache_store.proofs.Performing.PerformDoes.{as_command, at_does, by_name, has_does, reading_does, reading_does_with, state_does, unsaid_does, unsaid_done}
use Rattle.cache_store.proofs.Saying.TakenMore.{open_takes}
use Rattle.file_handles.proofs.IndexLeft.{same_left}
use Rattle.cache_store.proofs.Reading.ReadsHeld.{same_read}
use Rattle.cache_store.proofs.Performing.RepliedInMemory.{at_in_memory, element_in_memory, has_in_memory, state_in_memory}
use Rattle.cache_store.specs.AtClear.{ChangesAtClear, ClearsInOrder}
use Rattle.cache_store.specs.Reads.{PutsChunks}
use Rattle.cache_store.specs.Records.{KeepsRecords}
use Rattle.cache_store.specs.Session.{Open}
use Rattle.cache_store.proofs.Clearing.ClearPart.{kept_at, same_keeps}
use Rattle.cache_store.proofs.Performing.PutChunks.{key_doomed, puts_chunks, slot_put}
use Rattle.cache_replies.proofs.SaidMore.{of_ok, when_ok}
use Rattle.file_handles.specs.Dooming.{IsUnfinishedFor}
use Rattle.index_theory.specs.Ever.{entries_on}
use Rattle.cache_store.proofs.store.Store.perform.Goals as goal

pub returns-in-At-clause-does : goal.returns-in-At-clause-does
returns-in-At-clause-does g c = λ told.
    let was = saying g.K.Sink c.args.self.now.reply c.args.sink.now in
    as_command _ (At c.in-At.now) _ _ _ _ _ (ap command_of c.in-At.is) (λ m. refl)
    (at_does c.in-At.now (session g.D.Disk c.args.self.now c.args.disk.now) was (subst IsGiven (ap command_of c.in-At.is) c.requires.given) c.requires.empty)

pub returns-in-Create-clause-does : goal.returns-in-Create-clause-does
returns-in-Create-clause-does g c = λ told.
    let was = saying g.K.Sink c.args.self.now.reply c.args.sink.now in
    as_command _ (Create c.in-Create.slot c.in-Create.key.now) _ _ _ _ _ (ap command_of c.in-Create.is) (λ m. refl)
    (unsaid_does (Create c.in-Create.slot c.in-Create.key.now) c.learn_of.result _ _ was c.learn_of.ensures.learnt.not_said c.learn_of.ensures.learnt.no_sink c.requires.empty
    (create_achieves c.create-answer.result c.learn_of.result (session g.D.Disk c.args.self.now c.args.disk.now) _ refl c.learn_of.ensures.learnt (c.create-answer.ensures.looks.index told) c.in-Create.slot c.in-Create.key.now (c.create-answer.ensures.carried told) c.create-answer.ensures.effect))

pub returns-in-OpenKey-clause-does : goal.returns-in-OpenKey-clause-does
returns-in-OpenKey-clause-does g c = λ told.
    let was = saying g.K.Sink c.args.self.now.reply c.args.sink.now in
    as_command _ (OpenKey c.in-OpenKey.slot c.in-OpenKey.key.now) _ _ _ _ _ (ap command_of c.in-OpenKey.is) (λ m. refl)
    (unsaid_does (OpenKey c.in-OpenKey.slot c.in-OpenKey.key.now) c.answer_of.result _ _ was c.answer_of.ensures.not_said c.answer_of.ensures.no_sink c.requires.empty
    (open_achieves c.open-answer.result c.answer_of.result (session g.D.Disk c.args.self.now c.args.disk.now) _ refl refl c.answer_of.ensures.replies c.answer_of.ensures.not_said c.answer_of.ensures.no_sink (same_left (c.open-answer.ensures.looks.state told)) c.in-OpenKey.slot c.in-OpenKey.key.now (c.open-answer.ensures.carried told)))

pub returns-in-Append-clause-does : goal.returns-in-Append-clause-does
returns-in-Append-clause-does g c = λ told.
    let was = saying g.K.Sink c.args.self.now.reply c.args.sink.now in
    as_command _ (Append c.in-Append.slot c.in-Append.bytes.now) _ _ _ _ _ (ap command_of c.in-Append.is) (λ m. refl)
    (unsaid_does (Append c.in-Append.slot c.in-Append.bytes.now) c.answer_of-in-Append.result _ _ was c.answer_of-in-Append.ensures.not_said c.answer_of-in-Append.ensures.no_sink c.requires.empty
    (append_achieves c.append.result c.answer_of-in-Append.result (session g.D.Disk c.args.self.now c.args.disk.now) _ refl refl c.answer_of-in-Append.ensures.replies c.answer_of-in-Append.ensures.not_said c.answer_of-in-Append.ensures.no_sink (c.append.ensures.files.index told) c.in-Append.slot c.in-Append.bytes.now (c.append.ensures.carried told)))

pub returns-in-Finish-clause-does : goal.returns-in-Finish-clause-does
returns-in-Finish-clause-does g c = λ told.
    let was = saying g.K.Sink c.args.self.now.reply c.args.sink.now in
    as_command _ (Finish c.in-Finish.slot) _ _ _ _ _ (ap command_of c.in-Finish.is) (λ m. refl)
    (unsaid_does (Finish c.in-Finish.slot) c.learn_of-in-Finish.result _ _ was c.learn_of-in-Finish.ensures.learnt.not_said c.learn_of-in-Finish.ensures.learnt.no_sink c.requires.empty
    (finish_achieves c.finish-answer.result c.learn_of-in-Finish.result (session g.D.Disk c.args.self.now c.args.disk.now) _ refl c.learn_of-in-Finish.ensures.learnt (c.finish-answer.ensures.finishes.files.index told) c.in-Finish.slot (c.finish-answer.ensures.finishes.carried told) c.finish-answer.ensures.finishes.effect))

pub returns-in-SetElement-clause-does : goal.returns-in-SetElement-clause-does
returns-in-SetElement-clause-does g c = λ told.
    let was = saying g.K.Sink c.args.self.now.reply c.args.sink.now in
    as_command _ (SetElement c.in-SetElement.slot c.in-SetElement.name.now c.in-SetElement.value.now) _ _ _ _ _ (ap command_of c.in-SetElement.is) (λ m. refl)
    (unsaid_does (SetElement c.in-SetElement.slot c.in-SetElement.name.now c.in-SetElement.value.now) c.learn_of-in-SetElement.result _ _ was c.learn_of-in-SetElement.ensures.learnt.not_said c.learn_of-in-SetElement.ensures.learnt.no_sink c.requires.empty
    (set_achieves c.set_element-answer.result c.learn_of-in-SetElement.result (session g.D.Disk c.args.self.now c.args.disk.now) _ refl c.learn_of-in-SetElement.ensures.learnt (c.set_element-answer.ensures.files.index told) c.in-SetElement.slot c.in-SetElement.name.now c.in-SetElement.value.now (c.set_element-answer.ensures.carried told) c.set_element-answer.ensures.effect))

pub returns-in-UnsetElement-clause-does : goal.returns-in-UnsetElement-clause-does
returns-in-UnsetElement-clause-does g c = λ told.
    let was = saying g.K.Sink c.args.self.now.reply c.args.sink.now in
    as_command _ (UnsetElement c.in-UnsetElement.slot c.in-UnsetElement.name.now) _ _ _ _ _ (ap command_of c.in-UnsetElement.is) (λ m. refl)
    (unsaid_does (UnsetElement c.in-UnsetElement.slot c.in-UnsetElement.name.now) c.learn_of_some.result _ _ was c.learn_of_some.ensures.learnt.not_said c.learn_of_some.ensures.learnt.no_sink c.requires.empty
    (unset_achieves c.unset_element-answer.result c.learn_of_some.result (session g.D.Disk c.args.self.now c.args.disk.now) _ refl c.learn_of_some.ensures.learnt (c.unset_element-answer.ensures.files.index told) c.in-UnsetElement.slot c.in-UnsetElement.name.now (c.unset_element-answer.ensures.carried told) c.unset_element-answer.ensures.effect))

pub returns-in-Close-clause-does : goal.returns-in-Close-clause-does
returns-in-Close-clause-does g c = λ told.
    let was = saying g.K.Sink c.args.self.now.reply c.args.sink.now in
    as_command _ (Close c.in-Close.slot) _ _ _ _ _ (ap command_of c.in-Close.is) (λ m. refl)
    (unsaid_does (Close c.in-Close.slot) c.learn_of-in-Close.result _ _ was c.learn_of-in-Close.ensures.learnt.not_said c.learn_of-in-Close.ensures.learnt.no_sink c.requires.empty
    (close_achieves c.close-answer.result c.learn_of-in-Close.result (session g.D.Disk c.args.self.now c.args.disk.now) _ refl c.learn_of-in-Close.ensures.learnt (c.close-answer.ensures.files.index told) c.in-Close.slot (c.close-answer.ensures.carried told) c.close-answer.ensures.effect))

pub returns-in-Doom-clause-does : goal.returns-in-Doom-clause-does
returns-in-Doom-clause-does g c = λ told.
    let was = saying g.K.Sink c.args.self.now.reply c.args.sink.now in
    as_command _ (Doom c.in-Doom.key.now) _ _ _ _ _ (ap command_of c.in-Doom.is) (λ m. refl)
    (unsaid_does (Doom c.in-Doom.key.now) c.learn_of-in-Doom.result _ _ was c.learn_of-in-Doom.ensures.learnt.not_said c.learn_of-in-Doom.ensures.learnt.no_sink c.requires.empty
    (doom_achieves c.doom-answer.result c.learn_of-in-Doom.result (session g.D.Disk c.args.self.now c.args.disk.now) _ refl c.learn_of-in-Doom.ensures.learnt (c.doom-answer.ensures.looks.index told) c.in-Doom.key.now (c.doom-answer.ensures.carried told) c.doom-answer.ensures.effect))

pub returns-in-Element-clause-does : goal.returns-in-Element-clause-does
returns-in-Element-clause-does g c = λ told.
    as_command _ (ElementOf c.in-Element.slot c.in-Element.name.now) _ _ _ _ _ (ap command_of c.in-Element.is) (λ m. refl)
    (reading_does (ElementOf c.in-Element.slot c.in-Element.name.now) tt c.say_element.result (session g.D.Disk c.args.self.now c.args.disk.now) _ _ _ refl c.say_element.ensures.open (c.say_element.ensures.answers (g.D.Disk.state c.args.disk.now)))

pub returns-in-UseEntry-clause-does : goal.returns-in-UseEntry-clause-does
returns-in-UseEntry-clause-does g c = λ told.
    let was = saying g.K.Sink c.args.self.now.reply c.args.sink.now in
    as_command _ (UseEntry c.in-UseEntry.slot) _ _ _ _ _ (ap command_of c.in-UseEntry.is) (λ m. refl)
    (unsaid_does (UseEntry c.in-UseEntry.slot) c.learn_of-in-UseEntry.result _ _ was c.learn_of-in-UseEntry.ensures.learnt.not_said c.learn_of-in-UseEntry.ensures.learnt.no_sink c.requires.empty
    (use_achieves c.use_entry-answer.result c.learn_of-in-UseEntry.result (session g.D.Disk c.args.self.now c.args.disk.now) _ refl c.learn_of-in-UseEntry.ensures.learnt (c.use_entry-answer.ensures.files.index told) c.in-UseEntry.slot (c.use_entry-answer.ensures.carried told) c.use_entry-answer.ensures.effect))

pub returns-in-Pin-clause-does : goal.returns-in-Pin-clause-does
returns-in-Pin-clause-does g c = λ told.
    let was = saying g.K.Sink c.args.self.now.reply c.args.sink.now in
    as_command _ (Pin c.in-Pin.slot) _ _ _ _ _ (ap command_of c.in-Pin.is) (λ m. refl)
    (unsaid_does (Pin c.in-Pin.slot) c.learn_of-in-Pin.result _ _ was c.learn_of-in-Pin.ensures.learnt.not_said c.learn_of-in-Pin.ensures.learnt.no_sink c.requires.empty
    (pin_achieves c.set_pin-answer.result c.learn_of-in-Pin.result (session g.D.Disk c.args.self.now c.args.disk.now) _ refl c.learn_of-in-Pin.ensures.learnt (c.set_pin-answer.ensures.files.index told) c.in-Pin.slot (c.set_pin-answer.ensures.carried told) c.set_pin-answer.ensures.effect))

pub returns-in-Unpin-clause-does : goal.returns-in-Unpin-clause-does
returns-in-Unpin-clause-does g c = λ told.
    let was = saying g.K.Sink c.args.self.now.reply c.args.sink.now in
    as_command _ (Unpin c.in-Unpin.slot) _ _ _ _ _ (ap command_of c.in-Unpin.is) (λ m. refl)
    (unsaid_does (Unpin c.in-Unpin.slot) c.learn_of-in-Unpin.result _ _ was c.learn_of-in-Unpin.ensures.learnt.not_said c.learn_of-in-Unpin.ensures.learnt.no_sink c.requires.empty
    (unpin_achieves c.set_pin-answer-in-Unpin.result c.learn_of-in-Unpin.result (session g.D.Disk c.args.self.now c.args.disk.now) _ refl c.learn_of-in-Unpin.ensures.learnt (c.set_pin-answer-in-Unpin.ensures.files.index told) c.in-Unpin.slot (c.set_pin-answer-in-Unpin.ensures.carried told) c.set_pin-answer-in-Unpin.ensures.effect))

pub returns-in-ReadPart-clause-does : goal.returns-in-ReadPart-clause-does
returns-in-ReadPart-clause-does g c = λ told.
    as_command _ (ReadPart c.in-ReadPart.slot c.in-ReadPart.from c.in-ReadPart.len) _ _ _ _ _ (ap command_of c.in-ReadPart.is) (λ m. refl)
    (reading_does_with (ReadPart c.in-ReadPart.slot c.in-ReadPart.from c.in-ReadPart.len) tt c.say_read.result (session g.D.Disk c.args.self.now c.args.disk.now) _ (kept c.say_read.new.self.handles) _ _
    (c.say_read.ensures.looks.state told) c.say_read.ensures.open
    (λ b h. read_keeps (g.D.Disk.state c.args.disk.now) (kept c.args.self.now.handles) (kept c.say_read.new.self.handles) c.say_read.ensures.same (c.say_read.ensures.holds told) h)
    (c.say_read.ensures.answers told))

pub returns-in-Get-clause-does : goal.returns-in-Get-clause-does
returns-in-Get-clause-does g c = λ told.
    as_command _ (Get c.in-Get.key.now) _ _ _ _ _ (ap command_of c.in-Get.is) (λ m. refl)
    (reading_does (Get c.in-Get.key.now) tt c.say_shown.result (session g.D.Disk c.args.self.now c.args.disk.now) _ _ _ (c.say_shown.ensures.looks.state told) c.say_shown.ensures.open (c.say_shown.ensures.answers told))

pub returns-in-Has-clause-does : goal.returns-in-Has-clause-does
returns-in-Has-clause-does g c = λ told.
    let was = saying g.K.Sink c.args.self.now.reply c.args.sink.now in
    by_name _ (HasEntry c.in-Has.key.now) _ _ _ _ _ (ap command_of c.in-Has.is)
    (has_does c.in-Has.key.now c.has.result (session g.D.Disk c.args.self.now c.args.disk.now) was c.has.ensures.unsaid c.requires.empty c.has.ensures.answers)

pub returns-in-State-clause-does : goal.returns-in-State-clause-does
returns-in-State-clause-does g c = λ told.
    let was = saying g.K.Sink c.args.self.now.reply c.args.sink.now in
    as_command _ UpdateState _ _ _ _ _ (ap command_of c.in-State.is) (λ m. refl)
    (state_does c.state_of.result (session g.D.Disk c.args.self.now c.args.disk.now) was c.state_of.ensures.unsaid c.requires.empty c.state_of.ensures.reply)

pub returns-in-List-clause-does : goal.returns-in-List-clause-does
returns-in-List-clause-does g c = λ told.
    by_name _ ListRecords _ _ _ _ _ (ap command_of c.in-List.is)
    (c.say_list.ensures.does told)

pub returns-in-Evict-clause-does : goal.returns-in-Evict-clause-does
returns-in-Evict-clause-does g c = λ told.
    by_name _ (Evict c.in-Evict.kb) _ _ _ _ _ (ap command_of c.in-Evict.is)
    (c.evict.ensures.does told)

pub returns-in-Clear-clause-does : goal.returns-in-Clear-clause-does
returns-in-Clear-clause-does g c = λ told.
    by_name _ (ClearOrigin c.in-Clear.origin.now) _ _ _ _ _ (ap command_of c.in-Clear.is)
    (unsaid_done (ClearOrigin c.in-Clear.origin.now) c.clear.result _ _ (saying g.K.Sink c.clear.new.self.reply c.args.sink.now) c.clear.ensures.unsaid.not_said c.clear.ensures.unsaid.no_sink (c.clear.ensures.unsaid.held ∙ c.requires.empty) (c.clear.ensures.does told))

pub returns-in-Flush-clause-does : goal.returns-in-Flush-clause-does
returns-in-Flush-clause-does g c = λ told.
    as_command _ Flush _ _ _ _ _ (ap command_of c.in-Flush.is) (λ m. refl)
    (unsaid_does Flush c.flush.result _ _ (saying g.K.Sink c.flush.new.self.reply c.args.sink.now) c.flush.ensures.unsaid.not_said c.flush.ensures.unsaid.no_sink (c.flush.ensures.unsaid.held ∙ c.requires.empty) (c.flush.ensures.does told))

pub returns-in-Step-clause-does : goal.returns-in-Step-clause-does
returns-in-Step-clause-does g c = λ told.
    as_command _ (StepUpdate c.in-Step.n) _ _ _ _ _ (ap command_of c.in-Step.is) (λ m. refl)
    (unsaid_does (StepUpdate c.in-Step.n) c.step.result _ _ (saying g.K.Sink c.step.new.self.reply c.args.sink.now) c.step.ensures.unsaid.not_said c.step.ensures.unsaid.no_sink (c.step.ensures.unsaid.held ∙ c.requires.empty) (c.step.ensures.does told))

pub returns-in-Verify-clause-does : goal.returns-in-Verify-clause-does
returns-in-Verify-clause-does g c = λ told.
    by_name _ Verify _ _ _ _ _ (ap command_of c.in-Verify.is)
    (unsaid_done Verify c.verify.result _ _ (saying g.K.Sink c.verify.new.self.reply c.args.sink.now) c.verify.ensures.unsaid.not_said c.verify.ensures.unsaid.no_sink (c.verify.ensures.unsaid.held ∙ c.requires.empty) (c.verify.ensures.does told))

pub returns-in-Rebuild-clause-does : goal.returns-in-Rebuild-clause-does
returns-in-Rebuild-clause-does g c = λ told.
    as_command _ Rebuild _ _ _ _ _ (ap command_of c.in-Rebuild.is) (λ m. refl)
    (unsaid_does Rebuild c.rebuild.result _ _ (saying g.K.Sink c.rebuild.new.self.reply c.args.sink.now) c.rebuild.ensures.unsaid.not_said c.rebuild.ensures.unsaid.no_sink (c.rebuild.ensures.unsaid.held ∙ c.requires.empty) (c.rebuild.ensures.does told))

pub returns-in-Element-clause-grows : goal.returns-in-Element-clause-grows
returns-in-Element-clause-grows g c = λ told.
    open_takes (ElementOf c.in-Element.slot c.in-Element.name.now) tt c.say_element.result (session g.D.Disk c.args.self.now c.args.disk.now) (g.K.Sink.taken c.args.sink.now)
    (saying g.K.Sink c.say_element.new.self.reply c.say_element.new.sink) (c.requires.told told) (c.say_element.ensures.answers (g.D.Disk.state c.args.disk.now))

pub returns-in-ReadPart-clause-grows : goal.returns-in-ReadPart-clause-grows
returns-in-ReadPart-clause-grows g c = λ told.
    open_takes (ReadPart c.in-ReadPart.slot c.in-ReadPart.from c.in-ReadPart.len) tt c.say_read.result (session g.D.Disk c.args.self.now c.args.disk.now) (g.K.Sink.taken c.args.sink.now)
    (saying g.K.Sink c.say_read.new.self.reply c.say_read.new.sink) (c.requires.told told) (c.say_read.ensures.answers told)

pub returns-in-Get-clause-grows : goal.returns-in-Get-clause-grows
returns-in-Get-clause-grows g c = λ told.
    open_takes (Get c.in-Get.key.now) tt c.say_shown.result (session g.D.Disk c.args.self.now c.args.disk.now) (g.K.Sink.taken c.args.sink.now)
    (saying g.K.Sink c.say_shown.new.self.reply c.say_shown.new.sink) (c.requires.told told) (c.say_shown.ensures.answers told)

pub returns-in-ReadPart-clause-held : goal.returns-in-ReadPart-clause-held
returns-in-ReadPart-clause-held g c slot from len is =
    same_read c.in-ReadPart.slot c.in-ReadPart.from c.in-ReadPart.len slot from len (sym (ap command_of c.in-ReadPart.is) ∙ is)
    (λ s f l. AreHeld (kept c.args.self.now.handles) s f l → c.say_read.new.disk ≡ c.args.disk.now) c.say_read.ensures.held

pub returns-in-ReadPart-clause-recent : goal.returns-in-ReadPart-clause-recent
returns-in-ReadPart-clause-recent g c slot from len is =
    same_read c.in-ReadPart.slot c.in-ReadPart.from c.in-ReadPart.len slot from len (sym (ap command_of c.in-ReadPart.is) ∙ is)
    (λ s f l. IfOk c.say_read.result (λ a. outcome_in a ≡ outcome.Ok → IsTrue g.D.Disk.tells → LastIsFirst (kept c.args.self.now.handles) s f l (kept c.say_read.new.self.handles))) c.say_read.ensures.recent

pub returns-in-Create-clause-stays : goal.returns-in-Create-clause-stays
returns-in-Create-clause-stays g c = λ noted told.
    let failed : has_failed_look c.create-answer.result ≡ true = sym c.has_failed-self.ensures ∙ noted in
    let all = on_failed_look c.create-answer.result _ failed c.create-answer.ensures.looks.read in
    parts_stay (kept c.args.self.now.handles) (kept c.create-answer.new.self) c.args.self.now.moment (g.D.Disk.state c.args.disk.now) (g.D.Disk.state c.create-answer.new.disk) c.args.self.now.index c.learn_of.new.index
    all.handles (err_failed_look c.create-answer.result _ failed c.learn_of.ensures.unlearnt) (all.looks.state told)

pub returns-in-OpenKey-clause-stays : goal.returns-in-OpenKey-clause-stays
returns-in-OpenKey-clause-stays g c = λ noted told.
    let failed : has_failed_look c.open-answer.result ≡ true = sym c.has_failed-self-in-OpenKey.ensures ∙ noted in
    let all = on_failed_look c.open-answer.result _ failed c.open-answer.ensures.read in
    parts_stay (kept c.args.self.now.handles) (kept c.open-answer.new.self) c.args.self.now.moment (g.D.Disk.state c.args.disk.now) (g.D.Disk.state c.open-answer.new.disk) c.args.self.now.index c.args.self.now.index
    all refl (c.open-answer.ensures.looks.state told)

pub returns-in-Doom-clause-stays : goal.returns-in-Doom-clause-stays
returns-in-Doom-clause-stays g c = λ noted told.
    let failed : has_failed_look c.doom-answer.result ≡ true = sym c.has_failed-self-in-Doom.ensures ∙ noted in
    let all = on_failed_look c.doom-answer.result _ failed c.doom-answer.ensures.looks.read in
    parts_stay (kept c.args.self.now.handles) (kept c.doom-answer.new.self) c.args.self.now.moment (g.D.Disk.state c.args.disk.now) (g.D.Disk.state c.doom-answer.new.disk) c.args.self.now.index c.learn_of-in-Doom.new.index
    all.handles (err_failed_look c.doom-answer.result _ failed c.learn_of-in-Doom.ensures.unlearnt) (all.looks.state told)

pub returns-in-At-clause-in_memory : goal.returns-in-At-clause-in_memory
returns-in-At-clause-in_memory g c idle =
    at_in_memory (open_of c.args.self.now) _ c.in-At.now (saying g.K.Sink c.args.self.now.reply c.args.sink.now) (ap command_of c.in-At.is) c.requires.empty

pub returns-in-State-clause-in_memory : goal.returns-in-State-clause-in_memory
returns-in-State-clause-in_memory g c idle =
    state_in_memory (open_of c.args.self.now) _ c.state_of.result (saying g.K.Sink c.args.self.now.reply c.args.sink.now) (ap command_of c.in-State.is) c.state_of.ensures.unsaid c.requires.empty c.state_of.ensures.reply

pub returns-in-Has-clause-in_memory : goal.returns-in-Has-clause-in_memory
returns-in-Has-clause-in_memory g c idle =
    has_in_memory (open_of c.args.self.now) _ c.in-Has.key.now c.has.result (saying g.K.Sink c.args.self.now.reply c.args.sink.now) (ap command_of c.in-Has.is) c.has.ensures.unsaid c.requires.empty c.has.ensures.answers

pub returns-in-Element-clause-in_memory : goal.returns-in-Element-clause-in_memory
returns-in-Element-clause-in_memory g c idle =
    element_in_memory (open_of c.args.self.now) _ c.in-Element.slot c.in-Element.name.now c.say_element.result (g.K.Sink.taken c.args.sink.now)
    (saying g.K.Sink c.say_element.new.self.reply c.say_element.new.sink) (ap command_of c.in-Element.is) c.say_element.ensures.answers

pub returns-in-Evict-clause-evicts : goal.returns-in-Evict-clause-evicts
returns-in-Evict-clause-evicts g c kb is had told =
    subst (λ (n : ℕ). LeavesOthers (session g.D.Disk c.args.self.now c.args.disk.now) n c.evict.new.self.index.map) (ap kb_of (sym (ap command_of c.in-Evict.is) ∙ is)) (c.evict.ensures.evicts had told)

pub returns-in-Clear-clause-clears : goal.returns-in-Clear-clause-clears
returns-in-Clear-clause-clears g c =
    subst (λ (x : Command). IfSome (origin_cleared x (standing (g.D.Disk.state c.args.disk.now) Clear)) (λ origin. HadEffect c.clear.result → IsTrue g.D.Disk.tells
    → LeavesUncleared (session g.D.Disk c.args.self.now c.args.disk.now) origin c.clear.new.self.index.map)) (sym (ap command_of c.in-Clear.is)) c.clear.ensures.clears

pub returns-in-Clear-clause-stopped : goal.returns-in-Clear-clause-stopped
returns-in-Clear-clause-stopped g c =
    subst (λ (x : Command). IfSome (origin_cleared x (standing (g.D.Disk.state c.args.disk.now) Clear)) (λ origin. IsTrue g.D.Disk.tells
    → ClearsUnderMark origin (session g.D.Disk c.args.self.now c.args.disk.now) (g.D.Disk.state c.clear.new.disk))) (sym (ap command_of c.in-Clear.is)) c.clear.ensures.stopped

pub returns-in-Resume-clause-does : goal.returns-in-Resume-clause-does
returns-in-Resume-clause-does g c = λ told.
    by_name _ Resume _ _ _ _ _ (ap command_of c.in-Resume.is)
    (unsaid_done Resume c.resume.result _ _ (saying g.K.Sink c.resume.new.self.reply c.args.sink.now) c.resume.ensures.unsaid.not_said c.resume.ensures.unsaid.no_sink (c.resume.ensures.unsaid.held ∙ c.requires.empty) (c.resume.ensures.does told))

pub returns-in-Resume-clause-clears : goal.returns-in-Resume-clause-clears
returns-in-Resume-clause-clears g c =
    let mark = mark_of (standing (g.D.Disk.state c.args.disk.now) Clear) in
    let before = session g.D.Disk c.args.self.now c.args.disk.now in
    subst (λ (x : Command). IfSome (origin_cleared x (standing (g.D.Disk.state c.args.disk.now) Clear)) (λ origin. HadEffect c.resume.result → IsTrue g.D.Disk.tells
    → LeavesUncleared before origin c.resume.new.self.index.map)) (sym (ap command_of c.in-Resume.is))
    (resumed_clears mark before c.resume.new.self.index (HadEffect c.resume.result) (IsTrue g.D.Disk.tells) c.resume.ensures.resumes)

pub returns-in-Resume-clause-stopped : goal.returns-in-Resume-clause-stopped
returns-in-Resume-clause-stopped g c =
    subst (λ (x : Command). IfSome (origin_cleared x (standing (g.D.Disk.state c.args.disk.now) Clear)) (λ origin. IsTrue g.D.Disk.tells
    → ClearsUnderMark origin (session g.D.Disk c.args.self.now c.args.disk.now) (g.D.Disk.state c.resume.new.disk))) (sym (ap command_of c.in-Resume.is)) c.resume.ensures.stopped

pub returns-in-GetAlt-clause-does : goal.returns-in-GetAlt-clause-does
returns-in-GetAlt-clause-does g c = λ told.
    as_command _ (GetAlt c.in-GetAlt.key.now) _ _ _ _ _ (ap command_of c.in-GetAlt.is) (λ m. refl)
    (reading_does (GetAlt c.in-GetAlt.key.now) tt c.say_shown-in-GetAlt.result (session g.D.Disk c.args.self.now c.args.disk.now) _ _ _ (c.say_shown-in-GetAlt.ensures.looks.state told) c.say_shown-in-GetAlt.ensures.open (c.say_shown-in-GetAlt.ensures.answers told))

pub returns-in-MainBody-clause-does : goal.returns-in-MainBody-clause-does
returns-in-MainBody-clause-does g c = λ told.
    as_command _ (MainBody c.in-MainBody.key.now) _ _ _ _ _ (ap command_of c.in-MainBody.is) (λ m. refl)
    (reading_does (MainBody c.in-MainBody.key.now) tt c.say_shown-in-MainBody.result (session g.D.Disk c.args.self.now c.args.disk.now) _ _ _ (c.say_shown-in-MainBody.ensures.looks.state told) c.say_shown-in-MainBody.ensures.open (c.say_shown-in-MainBody.ensures.answers told))

pub returns-in-GetAlt-clause-grows : goal.returns-in-GetAlt-clause-grows
returns-in-GetAlt-clause-grows g c = λ told.
    open_takes (GetAlt c.in-GetAlt.key.now) tt c.say_shown-in-GetAlt.result (session g.D.Disk c.args.self.now c.args.disk.now) (g.K.Sink.taken c.args.sink.now)
    (saying g.K.Sink c.say_shown-in-GetAlt.new.self.reply c.say_shown-in-GetAlt.new.sink) (c.requires.told told) (c.say_shown-in-GetAlt.ensures.answers told)

pub returns-in-MainBody-clause-grows : goal.returns-in-MainBody-clause-grows
returns-in-MainBody-clause-grows g c = λ told.
    open_takes (MainBody c.in-MainBody.key.now) tt c.say_shown-in-MainBody.result (session g.D.Disk c.args.self.now c.args.disk.now) (g.K.Sink.taken c.args.sink.now)
    (saying g.K.Sink c.say_shown-in-MainBody.new.self.reply c.say_shown-in-MainBody.new.sink) (c.requires.told told) (c.say_shown-in-MainBody.ensures.answers told)

pub returns-in-PutAlt-clause-does : goal.returns-in-PutAlt-clause-does
returns-in-PutAlt-clause-does g c = λ told.
    let was = saying g.K.Sink c.args.self.now.reply c.args.sink.now in
    as_command _ (PutAlt c.in-PutAlt.slot c.in-PutAlt.kind.now c.in-PutAlt.alt.now) _ _ _ _ _ (ap command_of c.in-PutAlt.is) (λ m. refl)
    (unsaid_does (PutAlt c.in-PutAlt.slot c.in-PutAlt.kind.now c.in-PutAlt.alt.now) c.learn_of-in-PutAlt.result _ _ was c.learn_of-in-PutAlt.ensures.learnt.not_said c.learn_of-in-PutAlt.ensures.learnt.no_sink c.requires.empty
    (put_achieves c.put_alt-answer.result c.learn_of-in-PutAlt.result (session g.D.Disk c.args.self.now c.args.disk.now) _ refl c.learn_of-in-PutAlt.ensures.learnt (c.put_alt-answer.ensures.looks.index told) c.in-PutAlt.slot c.in-PutAlt.kind.now c.in-PutAlt.alt.now (c.put_alt-answer.ensures.carried told) c.put_alt-answer.ensures.effect))

pub returns-in-PutAlt-clause-stays : goal.returns-in-PutAlt-clause-stays
returns-in-PutAlt-clause-stays g c = λ noted told.
    let failed : has_failed_look c.put_alt-answer.result ≡ true = sym c.has_failed-self-in-PutAlt.ensures ∙ noted in
    let all = on_failed_look c.put_alt-answer.result _ failed c.put_alt-answer.ensures.looks.read in
    parts_stay (kept c.args.self.now.handles) (kept c.put_alt-answer.new.self) c.args.self.now.moment (g.D.Disk.state c.args.disk.now) (g.D.Disk.state c.put_alt-answer.new.disk) c.args.self.now.index c.learn_of-in-PutAlt.new.index
    all.handles (err_failed_look c.put_alt-answer.result _ failed c.learn_of-in-PutAlt.ensures.unlearnt) (all.looks.state told)

pub returns-in-FinishAs-clause-does : goal.returns-in-FinishAs-clause-does
returns-in-FinishAs-clause-does g c = λ told.
    let command : Command = FinishAs c.in-FinishAs.slot c.in-FinishAs.header c.in-FinishAs.elements.now in
    as_command _ command _ _ _ _ _ (ap command_of c.in-FinishAs.is) (λ m. refl)
    (unsaid_does command c.finish_as.result _ _ (saying g.K.Sink c.finish_as.new.self.reply c.args.sink.now) c.finish_as.ensures.unsaid.not_said c.finish_as.ensures.unsaid.no_sink (c.finish_as.ensures.unsaid.held ∙ c.requires.empty)
    (c.finish_as.ensures.does told))

pub returns-in-Dump-clause-does : goal.returns-in-Dump-clause-does
returns-in-Dump-clause-does g c = λ told.
    as_command _ Dump _ _ _ _ _ (ap command_of c.in-Dump.is) (λ m. refl) (c.dump.ensures.does told)

-- ---- what a crash may leave at `clear`

pub returns-in-Create-clause-at_clear : goal.returns-in-Create-clause-at_clear
returns-in-Create-clause-at_clear g c = λ told. kept_at (command_of c.args.c.now) (g.D.Disk.state c.args.disk.now) (g.D.Disk.state c.create-answer.new.disk) (c.create-answer.ensures.looks.index told).clear

pub returns-in-Append-clause-at_clear : goal.returns-in-Append-clause-at_clear
returns-in-Append-clause-at_clear g c = λ told. kept_at (command_of c.args.c.now) (g.D.Disk.state c.args.disk.now) (g.D.Disk.state c.append.new.disk) (c.append.ensures.files.index told).clear

pub returns-in-Finish-clause-at_clear : goal.returns-in-Finish-clause-at_clear
returns-in-Finish-clause-at_clear g c = λ told. kept_at (command_of c.args.c.now) (g.D.Disk.state c.args.disk.now) (g.D.Disk.state c.finish-answer.new.disk) (c.finish-answer.ensures.finishes.files.index told).clear

pub returns-in-SetElement-clause-at_clear : goal.returns-in-SetElement-clause-at_clear
returns-in-SetElement-clause-at_clear g c = λ told. kept_at (command_of c.args.c.now) (g.D.Disk.state c.args.disk.now) (g.D.Disk.state c.set_element-answer.new.disk) (c.set_element-answer.ensures.files.index told).clear

pub returns-in-UnsetElement-clause-at_clear : goal.returns-in-UnsetElement-clause-at_clear
returns-in-UnsetElement-clause-at_clear g c = λ told. kept_at (command_of c.args.c.now) (g.D.Disk.state c.args.disk.now) (g.D.Disk.state c.unset_element-answer.new.disk) (c.unset_element-answer.ensures.files.index told).clear

pub returns-in-PutAlt-clause-at_clear : goal.returns-in-PutAlt-clause-at_clear
returns-in-PutAlt-clause-at_clear g c = λ told. kept_at (command_of c.args.c.now) (g.D.Disk.state c.args.disk.now) (g.D.Disk.state c.put_alt-answer.new.disk) (c.put_alt-answer.ensures.looks.index told).clear

pub returns-in-UseEntry-clause-at_clear : goal.returns-in-UseEntry-clause-at_clear
returns-in-UseEntry-clause-at_clear g c = λ told. kept_at (command_of c.args.c.now) (g.D.Disk.state c.args.disk.now) (g.D.Disk.state c.use_entry-answer.new.disk) (c.use_entry-answer.ensures.files.index told).clear

pub returns-in-Pin-clause-at_clear : goal.returns-in-Pin-clause-at_clear
returns-in-Pin-clause-at_clear g c = λ told. kept_at (command_of c.args.c.now) (g.D.Disk.state c.args.disk.now) (g.D.Disk.state c.set_pin-answer.new.disk) (c.set_pin-answer.ensures.files.index told).clear

pub returns-in-Unpin-clause-at_clear : goal.returns-in-Unpin-clause-at_clear
returns-in-Unpin-clause-at_clear g c = λ told. kept_at (command_of c.args.c.now) (g.D.Disk.state c.args.disk.now) (g.D.Disk.state c.set_pin-answer-in-Unpin.new.disk) (c.set_pin-answer-in-Unpin.ensures.files.index told).clear

pub returns-in-Close-clause-at_clear : goal.returns-in-Close-clause-at_clear
returns-in-Close-clause-at_clear g c = λ told. kept_at (command_of c.args.c.now) (g.D.Disk.state c.args.disk.now) (g.D.Disk.state c.close-answer.new.disk) (c.close-answer.ensures.files.index told).clear

pub returns-in-Doom-clause-at_clear : goal.returns-in-Doom-clause-at_clear
returns-in-Doom-clause-at_clear g c = λ told. kept_at (command_of c.args.c.now) (g.D.Disk.state c.args.disk.now) (g.D.Disk.state c.doom-answer.new.disk) (c.doom-answer.ensures.looks.index told).clear

pub returns-in-FinishAs-clause-at_clear : goal.returns-in-FinishAs-clause-at_clear
returns-in-FinishAs-clause-at_clear g c = λ told. kept_at (command_of c.args.c.now) (g.D.Disk.state c.args.disk.now) (g.D.Disk.state c.finish_as.new.disk) (c.finish_as.ensures.index told).clear

pub returns-in-Evict-clause-at_clear : goal.returns-in-Evict-clause-at_clear
returns-in-Evict-clause-at_clear g c = λ told. kept_at (command_of c.args.c.now) (g.D.Disk.state c.args.disk.now) (g.D.Disk.state c.evict.new.disk) (c.evict.ensures.index told).clear

pub returns-in-OpenKey-clause-at_clear : goal.returns-in-OpenKey-clause-at_clear
returns-in-OpenKey-clause-at_clear g c = λ told. kept_at (command_of c.args.c.now) (g.D.Disk.state c.args.disk.now) (g.D.Disk.state c.open-answer.new.disk) (same_keeps (c.open-answer.ensures.looks.state told))

pub returns-in-ReadPart-clause-at_clear : goal.returns-in-ReadPart-clause-at_clear
returns-in-ReadPart-clause-at_clear g c = λ told. kept_at (command_of c.args.c.now) (g.D.Disk.state c.args.disk.now) (g.D.Disk.state c.say_read.new.disk) (same_keeps (c.say_read.ensures.looks.state told))

pub returns-in-Get-clause-at_clear : goal.returns-in-Get-clause-at_clear
returns-in-Get-clause-at_clear g c = λ told. kept_at (command_of c.args.c.now) (g.D.Disk.state c.args.disk.now) (g.D.Disk.state c.say_shown.new.disk) (same_keeps (c.say_shown.ensures.looks.state told))

pub returns-in-GetAlt-clause-at_clear : goal.returns-in-GetAlt-clause-at_clear
returns-in-GetAlt-clause-at_clear g c = λ told. kept_at (command_of c.args.c.now) (g.D.Disk.state c.args.disk.now) (g.D.Disk.state c.say_shown-in-GetAlt.new.disk) (same_keeps (c.say_shown-in-GetAlt.ensures.looks.state told))

pub returns-in-MainBody-clause-at_clear : goal.returns-in-MainBody-clause-at_clear
returns-in-MainBody-clause-at_clear g c = λ told. kept_at (command_of c.args.c.now) (g.D.Disk.state c.args.disk.now) (g.D.Disk.state c.say_shown-in-MainBody.new.disk) (same_keeps (c.say_shown-in-MainBody.ensures.looks.state told))

pub returns-in-List-clause-at_clear : goal.returns-in-List-clause-at_clear
returns-in-List-clause-at_clear g c = λ told. kept_at (command_of c.args.c.now) (g.D.Disk.state c.args.disk.now) (g.D.Disk.state c.say_list.new.disk) (same_keeps (c.say_list.ensures.looks.state told))

pub returns-in-Step-clause-at_clear : goal.returns-in-Step-clause-at_clear
returns-in-Step-clause-at_clear g c = λ told. kept_at (command_of c.args.c.now) (g.D.Disk.state c.args.disk.now) (g.D.Disk.state c.step.new.disk) (same_keeps (c.step.ensures.looks.state told))

pub returns-in-Verify-clause-at_clear : goal.returns-in-Verify-clause-at_clear
returns-in-Verify-clause-at_clear g c = λ told. kept_at (command_of c.args.c.now) (g.D.Disk.state c.args.disk.now) (g.D.Disk.state c.verify.new.disk) (same_keeps (c.verify.ensures.looks.state told))

pub returns-in-Dump-clause-at_clear : goal.returns-in-Dump-clause-at_clear
returns-in-Dump-clause-at_clear g c = λ told. kept_at (command_of c.args.c.now) (g.D.Disk.state c.args.disk.now) (g.D.Disk.state c.dump.new.disk) (same_keeps (c.dump.ensures.looks.state told))

pub returns-in-At-clause-at_clear : goal.returns-in-At-clause-at_clear
returns-in-At-clause-at_clear g c = λ told. kept_at (command_of c.args.c.now) (g.D.Disk.state c.args.disk.now) (g.D.Disk.state c.args.disk.now) (same_keeps refl)

pub returns-in-Element-clause-at_clear : goal.returns-in-Element-clause-at_clear
returns-in-Element-clause-at_clear g c = λ told. kept_at (command_of c.args.c.now) (g.D.Disk.state c.args.disk.now) (g.D.Disk.state c.args.disk.now) (same_keeps refl)

pub returns-in-Has-clause-at_clear : goal.returns-in-Has-clause-at_clear
returns-in-Has-clause-at_clear g c = λ told. kept_at (command_of c.args.c.now) (g.D.Disk.state c.args.disk.now) (g.D.Disk.state c.args.disk.now) (same_keeps refl)

pub returns-in-State-clause-at_clear : goal.returns-in-State-clause-at_clear
returns-in-State-clause-at_clear g c = λ told. kept_at (command_of c.args.c.now) (g.D.Disk.state c.args.disk.now) (g.D.Disk.state c.args.disk.now) (same_keeps refl)

pub returns-in-Flush-clause-at_clear : goal.returns-in-Flush-clause-at_clear
returns-in-Flush-clause-at_clear g c = λ told. kept_at (command_of c.args.c.now) (g.D.Disk.state c.args.disk.now) (g.D.Disk.state c.flush.new.disk) (c.flush.ensures.at_clear told)

pub returns-in-Rebuild-clause-at_clear : goal.returns-in-Rebuild-clause-at_clear
returns-in-Rebuild-clause-at_clear g c = λ told. kept_at (command_of c.args.c.now) (g.D.Disk.state c.args.disk.now) (g.D.Disk.state c.rebuild.new.disk) (c.rebuild.ensures.at_clear told)

pub returns-in-Clear-clause-at_clear : goal.returns-in-Clear-clause-at_clear
returns-in-Clear-clause-at_clear g c = λ told.
    subst (λ (x : Command). ChangesAtClear x (g.D.Disk.state c.args.disk.now) (g.D.Disk.state c.clear.new.disk)) (sym (ap command_of c.in-Clear.is)) (c.clear.ensures.at_clear told)

pub returns-in-Resume-clause-at_clear : goal.returns-in-Resume-clause-at_clear
returns-in-Resume-clause-at_clear g c = λ told.
    subst (λ (x : Command). ChangesAtClear x (g.D.Disk.state c.args.disk.now) (g.D.Disk.state c.resume.new.disk)) (sym (ap command_of c.in-Resume.is)) (c.resume.ensures.at_clear told)

-- ---- the order of a clearing

pub returns-in-Clear-clause-ordered : goal.returns-in-Clear-clause-ordered
returns-in-Clear-clause-ordered g c =
    subst (λ (x : Command). IfSome (origin_cleared x (standing (g.D.Disk.state c.args.disk.now) Clear)) (λ origin. IsTrue g.D.Disk.tells → ClearsInOrder origin (g.D.Disk.state c.args.disk.now) (g.D.Disk.state c.clear.new.disk)))
    (sym (ap command_of c.in-Clear.is)) c.clear.ensures.ordered

pub returns-in-Resume-clause-ordered : goal.returns-in-Resume-clause-ordered
returns-in-Resume-clause-ordered g c =
    subst (λ (x : Command). IfSome (origin_cleared x (standing (g.D.Disk.state c.args.disk.now) Clear)) (λ origin. IsTrue g.D.Disk.tells → ClearsInOrder origin (g.D.Disk.state c.args.disk.now) (g.D.Disk.state c.resume.new.disk)))
    (sym (ap command_of c.in-Resume.is)) c.resume.ensures.ordered

-- ---- chunks, files and records

pub returns-in-PutAlt-clause-alt_chunks : goal.returns-in-PutAlt-clause-alt_chunks
returns-in-PutAlt-clause-alt_chunks g c slot kind bytes is =
    let k = kept c.args.self.now.handles in
    let after = kept c.put_alt-answer.new.self in
    subst (λ (s : ℕ). IfOk c.learn_of-in-PutAlt.result (λ a. PutsChunks (outcome_in a) s k after)) (ap slot_put (sym (ap command_of c.in-PutAlt.is) ∙ is))
    (puts_chunks c.put_alt-answer.result c.learn_of-in-PutAlt.result c.in-PutAlt.slot k after c.put_alt-answer.ensures.chunks.done c.put_alt-answer.ensures.chunks.refused c.learn_of-in-PutAlt.ensures.went)

pub returns-in-Doom-clause-unfinished : goal.returns-in-Doom-clause-unfinished
returns-in-Doom-clause-unfinished g c key place number is there =
    let same : c.in-Doom.key.now ≡ key = ap key_doomed (sym (ap command_of c.in-Doom.is) ∙ is) in
    (c.doom-answer.ensures.unmoved place number (subst (λ (k : List ℕ). IsUnfinishedFor (kept c.args.self.now.handles) k place number) (sym same) there)).0

pub returns-in-At-clause-records : goal.returns-in-At-clause-records
returns-in-At-clause-records g c =
    λ told. subst (λ (x : Command). KeepsRecords x (entries_on (g.D.Disk.state c.args.disk.now)) c.args.self.now.index c.args.self.now.index) (sym (ap command_of c.in-At.is)) refl

pub returns-in-OpenKey-clause-records : goal.returns-in-OpenKey-clause-records
returns-in-OpenKey-clause-records g c =
    when_ok c.answer_of.result _ (λ told. subst (λ (x : Command). KeepsRecords x (entries_on (g.D.Disk.state c.args.disk.now)) c.args.self.now.index c.args.self.now.index) (sym (ap command_of c.in-OpenKey.is)) refl)

pub returns-in-Element-clause-records : goal.returns-in-Element-clause-records
returns-in-Element-clause-records g c =
    when_ok c.say_element.result _ (λ told. subst (λ (x : Command). KeepsRecords x (entries_on (g.D.Disk.state c.args.disk.now)) c.args.self.now.index c.say_element.new.self.index) (sym (ap command_of c.in-Element.is)) (ap (λ (o : Open). o.index) c.say_element.ensures.open))

pub returns-in-ReadPart-clause-records : goal.returns-in-ReadPart-clause-records
returns-in-ReadPart-clause-records g c =
    when_ok c.say_read.result _ (λ told. subst (λ (x : Command). KeepsRecords x (entries_on (g.D.Disk.state c.args.disk.now)) c.args.self.now.index c.say_read.new.self.index) (sym (ap command_of c.in-ReadPart.is)) (ap (λ (o : Open). o.index) c.say_read.ensures.open))

pub returns-in-Get-clause-records : goal.returns-in-Get-clause-records
returns-in-Get-clause-records g c =
    when_ok c.say_shown.result _ (λ told. subst (λ (x : Command). KeepsRecords x (entries_on (g.D.Disk.state c.args.disk.now)) c.args.self.now.index c.say_shown.new.self.index) (sym (ap command_of c.in-Get.is)) (ap (λ (o : Open). o.index) c.say_shown.ensures.open))

pub returns-in-GetAlt-clause-records : goal.returns-in-GetAlt-clause-records
returns-in-GetAlt-clause-records g c =
    when_ok c.say_shown-in-GetAlt.result _ (λ told. subst (λ (x : Command). KeepsRecords x (entries_on (g.D.Disk.state c.args.disk.now)) c.args.self.now.index c.say_shown-in-GetAlt.new.self.index) (sym (ap command_of c.in-GetAlt.is)) (ap (λ (o : Open). o.index) c.say_shown-in-GetAlt.ensures.open))

pub returns-in-MainBody-clause-records : goal.returns-in-MainBody-clause-records
returns-in-MainBody-clause-records g c =
    when_ok c.say_shown-in-MainBody.result _ (λ told. subst (λ (x : Command). KeepsRecords x (entries_on (g.D.Disk.state c.args.disk.now)) c.args.self.now.index c.say_shown-in-MainBody.new.self.index) (sym (ap command_of c.in-MainBody.is)) (ap (λ (o : Open). o.index) c.say_shown-in-MainBody.ensures.open))

pub returns-in-Has-clause-records : goal.returns-in-Has-clause-records
returns-in-Has-clause-records g c =
    λ told. subst (λ (x : Command). KeepsRecords x (entries_on (g.D.Disk.state c.args.disk.now)) c.args.self.now.index c.args.self.now.index) (sym (ap command_of c.in-Has.is)) refl

pub returns-in-State-clause-records : goal.returns-in-State-clause-records
returns-in-State-clause-records g c =
    λ told. subst (λ (x : Command). KeepsRecords x (entries_on (g.D.Disk.state c.args.disk.now)) c.args.self.now.index c.args.self.now.index) (sym (ap command_of c.in-State.is)) refl

pub returns-in-Step-clause-records : goal.returns-in-Step-clause-records
returns-in-Step-clause-records g c =
    of_ok c.step.result _ _ (λ steps told. subst (λ (x : Command). KeepsRecords x (entries_on (g.D.Disk.state c.args.disk.now)) c.args.self.now.index c.step.new.self.index) (sym (ap command_of c.in-Step.is)) (steps told)) c.step.ensures.steps

pub returns-in-List-clause-records : goal.returns-in-List-clause-records
returns-in-List-clause-records g c =
    of_ok c.say_list.result _ _ (λ ended told. subst (λ (x : Command). KeepsRecords x (entries_on (g.D.Disk.state c.args.disk.now)) c.args.self.now.index c.say_list.new.self.index) (sym (ap command_of c.in-List.is)) (ended told)) c.say_list.ensures.ended

pub returns-in-Verify-clause-records : goal.returns-in-Verify-clause-records
returns-in-Verify-clause-records g c =
    of_ok c.verify.result _ _ (λ ended told. subst (λ (x : Command). KeepsRecords x (entries_on (g.D.Disk.state c.args.disk.now)) c.args.self.now.index c.verify.new.self.index) (sym (ap command_of c.in-Verify.is)) (ended told)) c.verify.ensures.ended

pub returns-in-Dump-clause-records : goal.returns-in-Dump-clause-records
returns-in-Dump-clause-records g c =
    of_ok c.dump.result _ _ (λ ended told. subst (λ (x : Command). KeepsRecords x (entries_on (g.D.Disk.state c.args.disk.now)) c.args.self.now.index c.dump.new.self.index) (sym (ap command_of c.in-Dump.is)) (ended told)) c.dump.ensures.ended
