use Rattle.std.proofs.Common.{◌-◌, ◌++◌, ◌∷◌, [], List, ℕ, Ok, Result, refl, rules, subst, sym}
use Rattle.cache_base.specs.Limits.{chunks}
use Rattle.disk_theory.specs.State.{State, standing}
use Rattle.disk_theory.specs.declared.place.Place.TheVariants.{Entry}
use Rattle.entry_file.specs.Held.{IsLastOf}
use Rattle.cache_store.specs.Answering.{AnswersTo}
use Rattle.cache_replies.specs.Said.{saying}
use Rattle.cache_store.specs.Prefix.{range_of}
use Rattle.cache_replies.specs.Saying.{CutsIn, SaysMore, SendsFront}
use Rattle.cache_replies.specs.Showing.{part_said, showing}
use Rattle.cache_replies.specs.declared.answered.Answered.{Answered}
use Rattle.cache_replies.specs.declared.answered.Answered.TheVariants as answered
use Rattle.cache_store.specs.declared.fault.StoreFault.{StoreFault}
use Rattle.cache_theory.specs.Step.{step}
use Rattle.cache_theory.specs.declared.refusal.Refusal.TheVariants.{NoAlt}
use Rattle.entry_metadata.specs.Meta.{meta_of}
use Rattle.file_handles.specs.Reading.{part_of_body}
use Rattle.cache_store.proofs.Reading.ShownParts.{finds_reply, no_findings, part_none, part_shows, part_within}
use Rattle.cache_store.proofs.Saying.Unsaid.{none_cut, unsaid_answers, unsaid_by}
use Rattle.cache_store.proofs.Reading.FoundAnswers.{answers_cut, answers_shown, by_fault, front_shown, of_body}
use Rattle.cache_store.proofs.Performing.HandedFaults.{handed_disk}
use Rattle.cache_store.proofs.store.Store.say_shown.Goals as goal

pub say_found-requires-clause-held : goal.say_found-requires-clause-held
say_found-requires-clause-held g c = λ told.
    let meta = c.in-Ok.meta in
    subst (λ (s : State). IsLastOf (chunks meta.offset) (standing s (Entry c.name_of.result)) meta.offset c.find.new.self.chunk) (sym (c.find.ensures.looks.state told))
    (c.in-Ok.ensures.held told c.name_of.result c.name_of.ensures)

pub say_found-requires-clause-inside : goal.say_found-requires-clause-inside
say_found-requires-clause-inside g c = part_within c.args.shown (meta_of c.in-Ok.meta) c.in_ok-part.field-0 c.in-Some.part c.in-Some.is c.in_ok-part.ensures.part

pub returns-in-Err-clause-answers : goal.returns-in-Err-clause-answers
returns-in-Err-clause-answers g c told m represents =
    unsaid_answers c.fault_answer.result (unsaid_by c.fault_answer.result c.fault_answer.ensures.not_said c.fault_answer.ensures.no_sink) (step m (showing c.args.shown c.args.key.now)).reply
    (finds_reply c.args.shown c.args.key.now c.in-Err.fault (g.D.Disk.state c.args.disk.now) m ((c.in-Err.ensures.finds told).finds m represents) c.fault_answer.result c.fault_answer.ensures.replies)
    (saying g.K.Sink c.args.self.now.reply c.args.sink.now) c.requires.empty

pub returns-in_err-part-clause-answers : goal.returns-in_err-part-clause-answers
returns-in_err-part-clause-answers g c told m represents =
    let was = saying g.K.Sink c.args.self.now.reply c.args.sink.now in
    let reply = (step m (showing c.args.shown c.args.key.now)).reply in
    by_fault c.from_residual.result _ (λ (r : Result Answered StoreFault). AnswersTo reply r was.taken was) c.from_residual.ensures.1
    (λ e. record { says = tt; outcome = tt; cut = none_cut reply was.taken })

pub returns-in_default-clause-answers : goal.returns-in_default-clause-answers
returns-in_default-clause-answers g c told m represents =
    let found = ((c.in-Ok.ensures.finds told).finds m represents).some in
    let none = part_none c.args.shown m c.args.key.now found.version found.reply (meta_of c.in-Ok.meta) found.of_meta c.in_ok-part.field-0 c.in_ok-part.ensures.part c.in_default.is in
    unsaid_answers (Ok (answered.Refused NoAlt)) tt (step m (showing c.args.shown c.args.key.now)).reply (sym none)
    (saying g.K.Sink c.args.self.now.reply c.args.sink.now) c.requires.empty

pub returns-in_err-say_found-clause-answers : goal.returns-in_err-say_found-clause-answers
returns-in_err-say_found-clause-answers g c told m represents =
    let was = saying g.K.Sink c.args.self.now.reply c.args.sink.now in
    let now = saying g.K.Sink c.say_found.new.self.reply c.say_found.new.sink in
    let p = c.in-Some.part in
    let command = showing c.args.shown c.args.key.now in
    let found = ((c.in-Ok.ensures.finds told).finds m represents).some in
    let shows = part_shows c.args.shown m c.args.key.now found.version found.reply (meta_of c.in-Ok.meta) found.of_meta c.in_ok-part.field-0 c.in_ok-part.ensures.part p c.in-Some.is in
    let cuts = of_body m c.args.key.now c.in-Ok.meta (g.D.Disk.state c.args.disk.now) (g.D.Disk.state c.find.new.disk) (c.find.ensures.looks.state told) c.name_of.result c.name_of.ensures found
    (λ body. CutsIn was now.taken (c.as_slice.result.now ++ (range_of p.from p.to body ++ 10 ∷ []))) (c.in_err-say_found.ensures.cut told) in
    by_fault c.from_residual-in_err-say_found.result _ (λ (r : Result Answered StoreFault). AnswersTo (step m command).reply r was.taken now) c.from_residual-in_err-say_found.ensures.1
    (λ e. answers_cut command m found.version.body (part_said p) shows was c.requires.empty e now
    (subst (λ (h : List ℕ). CutsIn was now.taken (h ++ (range_of p.from p.to found.version.body ++ 10 ∷ []))) c.as_slice.ensures cuts))

pub returns-in_err-say_found-clause-front : goal.returns-in_err-say_found-clause-front
returns-in_err-say_found-clause-front g c = λ calm failed told m represents.
    let was = saying g.K.Sink c.args.self.now.reply c.args.sink.now in
    let out = g.K.Sink.taken c.say_found.new.sink in
    let p = c.in-Some.part in
    let command = showing c.args.shown c.args.key.now in
    let disk = handed_disk c.from_residual-in_err-say_found.result c.in_err-say_found.field-0.0 c.say_found.result c.from_residual-in_err-say_found.ensures.1 c.in_err-say_found.was failed in
    let found = ((c.in-Ok.ensures.finds told).finds m represents).some in
    let shows = part_shows c.args.shown m c.args.key.now found.version found.reply (meta_of c.in-Ok.meta) found.of_meta c.in_ok-part.field-0 c.in_ok-part.ensures.part p c.in-Some.is in
    let sends = of_body m c.args.key.now c.in-Ok.meta (g.D.Disk.state c.args.disk.now) (g.D.Disk.state c.find.new.disk) (c.find.ensures.looks.state told) c.name_of.result c.name_of.ensures found
    (λ body. SendsFront was out (c.as_slice.result.now ++ part_of_body body p.from (p.to - p.from))) (c.say_found.ensures.front calm disk told) in
    front_shown command m found.version.body (part_said p) shows was c.requires.empty out
    (subst (λ (h : List ℕ). SendsFront was out (h ++ part_of_body found.version.body p.from (p.to - p.from))) c.as_slice.ensures sends)

pub returns-clause-answers : goal.returns-clause-answers
returns-clause-answers g c told m represents =
    let was = saying g.K.Sink c.args.self.now.reply c.args.sink.now in
    let now = saying g.K.Sink c.say_found.new.self.reply c.say_found.new.sink in
    let p = c.in-Some.part in
    let command = showing c.args.shown c.args.key.now in
    let found = ((c.in-Ok.ensures.finds told).finds m represents).some in
    let shows = part_shows c.args.shown m c.args.key.now found.version found.reply (meta_of c.in-Ok.meta) found.of_meta c.in_ok-part.field-0 c.in_ok-part.ensures.part p c.in-Some.is in
    let says = of_body m c.args.key.now c.in-Ok.meta (g.D.Disk.state c.args.disk.now) (g.D.Disk.state c.find.new.disk) (c.find.ensures.looks.state told) c.name_of.result c.name_of.ensures found
    (λ body. SaysMore was now (c.as_slice.result.now ++ (range_of p.from p.to body ++ 10 ∷ []))) (c.in_ok-say_found.ensures.said told) in
    answers_shown command m found.version.body (part_said p) shows was c.requires.empty now
    (subst (λ (h : List ℕ). SaysMore was now (h ++ (range_of p.from p.to found.version.body ++ 10 ∷ []))) c.as_slice.ensures says)

pub returns-in-Err-clause-unsaid : goal.returns-in-Err-clause-unsaid
returns-in-Err-clause-unsaid g c = record {
  lists = no_findings c.args.shown c.args.key.now c.fault_answer.result c.fault_answer.ensures.unlisted;
  out = search rules;
  held = search rules;
}

pub returns-in_default-clause-unsaid : goal.returns-in_default-clause-unsaid
returns-in_default-clause-unsaid g c = record {
  lists = no_findings c.args.shown c.args.key.now (Ok (answered.Refused NoAlt)) refl;
  out = λ a. refl;
  held = λ a. c.requires.empty;
}

pub returns-clause-unsaid : goal.returns-clause-unsaid
returns-clause-unsaid g c = record {
  lists = no_findings c.args.shown c.args.key.now (Ok answered.All) refl;
  out = λ more. absurd (more refl);
  held = λ more. absurd (more refl);
}
