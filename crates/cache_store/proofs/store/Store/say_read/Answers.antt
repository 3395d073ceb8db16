use Rattle.std.proofs.Common.{◌≡◌, ◌∙◌, ◌-◌, List, ℕ, None, Ok, ap, drop, length, min, subst, take, arith}
use Rattle.std.specs.Prelude.{codes}
use Rattle.cache_base.specs.Checks.{first_failing}
use Rattle.cache_theory.specs.Checks.{checks}
use Rattle.cache_theory.specs.Command.{Reply}
use Rattle.cache_theory.specs.Command.Command.{ReadPart}
use Rattle.cache_theory.specs.Machine.{object_of}
use Rattle.cache_theory.specs.Step.{step}
use Rattle.cache_theory.specs.Text.{with_bytes}
use Rattle.file_handles.specs.Kept.{kept}
use Rattle.cache_store.specs.Answering.{AnswersTo}
use Rattle.cache_replies.specs.Said.{saying}
use Rattle.cache_replies.specs.Saying.{CutsIn, SaysMore}
use Rattle.cache_replies.specs.declared.answered.Answered.TheVariants as answered
use Rattle.cache_store.proofs.Saying.ReplyLaws.{bytes_cut, bytes_said}
use Rattle.cache_store.proofs.Performing.HandedFaults.{handed_disk}
use Rattle.cache_store.proofs.Reading.PartRead.{all_of, count_is, read_front, read_reply, refused_reply}
use Rattle.cache_store.proofs.Reading.ReadsHeld.{fewer_held, goes_on, held_after, held_first, holds_then, len_of, recent_along, recent_count}
use Rattle.cache_store.proofs.Saying.SaidWhole.{not_said}
use Rattle.cache_store.proofs.Saying.Unsaid.{unsaid_answers}
use Rattle.cache_store.proofs.store.Store.say_read.Goals as goal

pub returns-in-Err-clause-answers : goal.returns-in-Err-clause-answers
returns-in-Err-clause-answers g c told m represents =
    let read = ReadPart c.args.slot c.args.from c.args.len in
    unsaid_answers (Ok (answered.Refused c.in-Err.refusal)) tt (step m read).reply
    (refused_reply m read c.in-Err.refusal (c.in-Err.ensures.refused c.args.from c.args.len m represents.0 represents.1.proper represents.1.handles))
    (saying g.K.Sink c.args.self.now.reply c.args.sink.now) c.requires.empty

pub returns-in_err-say_bytes-clause-answers : goal.returns-in_err-say_bytes-clause-answers
returns-in_err-say_bytes-clause-answers g c told m represents =
    let was = saying g.K.Sink c.args.self.now.reply c.args.sink.now in
    let now = saying g.K.Sink c.say_bytes.new.reply c.say_bytes.new.sink in
    let body : List ℕ = (object_of m c.args.slot).version.body in
    let from = c.args.from in
    let len = c.args.len in
    let end = c.in-Ok.ensures.len m represents.0 represents.1.proper represents.1.handles in
    let least = c.min-count.ensures in
    let minus = c.saturating_sub.ensures in
    let wide = c.from.ensures in
    let wide-2 = c.from-2.ensures in
    let wide-3 = c.from-at.ensures in
    let at : ℕ = c.from-at.result in
    let same : at ≡ from = omega (arith, wide-3) in
    let count : c.min-count.result ≡ min len (length body - at) = omega (arith, end, least, minus, wide, wide-2, same) in
    let passes : first_failing (checks m (ReadPart c.args.slot from len)) ≡ None = c.in-Ok.ensures.passes from len m represents.0 represents.1.proper represents.1.handles in
    subst (λ (q : Reply). AnswersTo q c.from_residual.result was.taken now) (read_reply m c.args.slot from len passes)
    (bytes_cut was c.requires.empty now (take len (drop from body)) c.from_residual.result c.in_err-say_bytes.field-0.0 c.from_residual.ensures.1
    (subst (λ (t : List ℕ). CutsIn was now.taken (with_bytes (codes "data") t)) (all_of body at len c.min-count.result count ∙ ap (λ n. take len (drop n body)) same)
    (c.in_err-say_bytes.ensures.cut told m (goes_on (g.D.Disk.state c.args.disk.now) (g.D.Disk.state c.fetch.new.disk) (kept c.args.self.now.handles) (kept c.fetch.new.handles) (c.fetch.ensures.looks.state told) c.fetch.ensures.read.has_read.same
    (c.fetch.ensures.read.has_read.holds told) m represents) (count_is body at len c.min-count.result count))))

pub returns-clause-answers : goal.returns-clause-answers
returns-clause-answers g c told m represents =
    let was = saying g.K.Sink c.args.self.now.reply c.args.sink.now in
    let now = saying g.K.Sink c.say_bytes.new.reply c.say_bytes.new.sink in
    let body : List ℕ = (object_of m c.args.slot).version.body in
    let from = c.args.from in
    let len = c.args.len in
    let end = c.in-Ok.ensures.len m represents.0 represents.1.proper represents.1.handles in
    let least = c.min-count.ensures in
    let minus = c.saturating_sub.ensures in
    let wide = c.from.ensures in
    let wide-2 = c.from-2.ensures in
    let wide-3 = c.from-at.ensures in
    let at : ℕ = c.from-at.result in
    let same : at ≡ from = omega (arith, wide-3) in
    let count : c.min-count.result ≡ min len (length body - at) = omega (arith, end, least, minus, wide, wide-2, same) in
    let passes : first_failing (checks m (ReadPart c.args.slot from len)) ≡ None = c.in-Ok.ensures.passes from len m represents.0 represents.1.proper represents.1.handles in
    subst (λ (q : Reply). AnswersTo q (Ok answered.All) was.taken now) (read_reply m c.args.slot from len passes)
    (bytes_said was c.requires.empty now (take len (drop from body))
    (subst (λ (t : List ℕ). SaysMore was now (with_bytes (codes "data") t)) (all_of body at len c.min-count.result count ∙ ap (λ n. take len (drop n body)) same)
    (c.in_ok-say_bytes.ensures.says told m (goes_on (g.D.Disk.state c.args.disk.now) (g.D.Disk.state c.fetch.new.disk) (kept c.args.self.now.handles) (kept c.fetch.new.handles) (c.fetch.ensures.looks.state told) c.fetch.ensures.read.has_read.same
    (c.fetch.ensures.read.has_read.holds told) m represents) (count_is body at len c.min-count.result count))))

pub returns-in_err-say_bytes-clause-held : goal.returns-in_err-say_bytes-clause-held
returns-in_err-say_bytes-clause-held g c all =
    let least = c.min-count.ensures in
    let wide = c.from.ensures in
    let same = c.from-at.ensures in
    let k = kept c.args.self.now.handles in
    let fewer = fewer_held k c.args.slot c.args.from c.args.len c.min-count.result c.from-at.result (omega (arith, same)) (omega (arith, least, wide)) all in
    let first = held_first k c.args.slot c.from-at.result c.min-count.result fewer in
    c.say_bytes.ensures.held
    (held_after k (kept c.fetch.new.handles) c.args.slot c.from-at.result c.min-count.result c.fetch.ensures.read.has_read.same (c.fetch.ensures.read.has_read.none_lost first) fewer)
    ∙ c.fetch.ensures.held first

pub returns-clause-held : goal.returns-clause-held
returns-clause-held g c all =
    let least = c.min-count.ensures in
    let wide = c.from.ensures in
    let same = c.from-at.ensures in
    let k = kept c.args.self.now.handles in
    let fewer = fewer_held k c.args.slot c.args.from c.args.len c.min-count.result c.from-at.result (omega (arith, same)) (omega (arith, least, wide)) all in
    let first = held_first k c.args.slot c.from-at.result c.min-count.result fewer in
    c.say_bytes.ensures.held
    (held_after k (kept c.fetch.new.handles) c.args.slot c.from-at.result c.min-count.result c.fetch.ensures.read.has_read.same (c.fetch.ensures.read.has_read.none_lost first) fewer)
    ∙ c.fetch.ensures.held first

pub returns-clause-recent : goal.returns-clause-recent
returns-clause-recent g c ok told =
    let some = c.requires.told told in
    let m = some.0 in
    let stands = some.1.1 in
    let k = kept c.args.self.now.handles in
    let at : ℕ = c.from-at.result in
    let wide = c.from.ensures in
    let wide-2 = c.from-2.ensures in
    let wide-3 = c.from-at.ensures in
    let least = c.min-count.ensures in
    let minus = c.saturating_sub.ensures in
    let end = c.in-Ok.ensures.len m some.1.0 stands.proper stands.handles in
    recent_count k (kept c.say_bytes.new.handles) c.args.slot c.args.from c.args.len c.min-count.result at (omega (arith, wide-3))
    (λ x own.
    let long = len_of k m some.1.0 stands.handles c.args.slot c.requires.slot x own in
    omega (arith, end, least, minus, wide, wide-2, wide-3, long))
    (recent_along k (kept c.fetch.new.handles) (kept c.say_bytes.new.handles) c.args.slot at c.min-count.result c.fetch.ensures.read.has_read.same (c.in_ok-say_bytes.ensures.recent told))

pub say_bytes-requires-clause-told : goal.say_bytes-requires-clause-told
say_bytes-requires-clause-told g c = λ told.
    let some = c.requires.told told in (
      some.0,
      goes_on (g.D.Disk.state c.args.disk.now) (g.D.Disk.state c.fetch.new.disk) (kept c.args.self.now.handles) (kept c.fetch.new.handles) (c.fetch.ensures.looks.state told)
          c.fetch.ensures.read.has_read.same (c.fetch.ensures.read.has_read.holds told) some.0 some.1,
    )

pub returns-in_err-say_bytes-clause-front : goal.returns-in_err-say_bytes-clause-front
returns-in_err-say_bytes-clause-front g c = λ calm failed told m represents.
    let was = saying g.K.Sink c.args.self.now.reply c.args.sink.now in
    let body : List ℕ = (object_of m c.args.slot).version.body in
    let from = c.args.from in
    let len = c.args.len in
    let end = c.in-Ok.ensures.len m represents.0 represents.1.proper represents.1.handles in
    let least = c.min-count.ensures in
    let minus = c.saturating_sub.ensures in
    let wide = c.from.ensures in
    let wide-2 = c.from-2.ensures in
    let wide-3 = c.from-at.ensures in
    let at : ℕ = c.from-at.result in
    let same : at ≡ from = omega (arith, wide-3) in
    let count : c.min-count.result ≡ min len (length body - at) = omega (arith, end, least, minus, wide, wide-2, same) in
    let passes : first_failing (checks m (ReadPart c.args.slot from len)) ≡ None = c.in-Ok.ensures.passes from len m represents.0 represents.1.proper represents.1.handles in
    read_front m c.args.slot from len at c.min-count.result same count passes was c.requires.empty (g.K.Sink.taken c.say_bytes.new.sink)
    (c.say_bytes.ensures.front (handed_disk c.from_residual.result c.in_err-say_bytes.field-0.0 c.say_bytes.result c.from_residual.ensures.1 c.in_err-say_bytes.was failed) told m
    (goes_on (g.D.Disk.state c.args.disk.now) (g.D.Disk.state c.fetch.new.disk) (kept c.args.self.now.handles) (kept c.fetch.new.handles) (c.fetch.ensures.looks.state told) c.fetch.ensures.read.has_read.same
    (c.fetch.ensures.read.has_read.holds told) m represents))

pub returns-in-Err-fetch-clause-answers : goal.returns-in-Err-fetch-clause-answers
returns-in-Err-fetch-clause-answers g c told m represents =
    not_said (step m (ReadPart c.args.slot c.args.from c.args.len)).reply c.handles_fault.result (saying g.K.Sink c.args.self.now.reply c.args.sink.now)

pub returns-in_err-say_bytes-clause-holds : goal.returns-in_err-say_bytes-clause-holds
returns-in_err-say_bytes-clause-holds g c = λ told.
    holds_then (g.D.Disk.state c.args.disk.now) (g.D.Disk.state c.fetch.new.disk) (kept c.args.self.now.handles) (kept c.fetch.new.handles) (kept c.say_bytes.new.handles) (c.fetch.ensures.looks.state told)
    c.fetch.ensures.read.has_read.same (c.fetch.ensures.read.has_read.holds told) (c.say_bytes.ensures.holds told)

pub returns-clause-holds : goal.returns-clause-holds
returns-clause-holds g c = λ told.
    holds_then (g.D.Disk.state c.args.disk.now) (g.D.Disk.state c.fetch.new.disk) (kept c.args.self.now.handles) (kept c.fetch.new.handles) (kept c.say_bytes.new.handles) (c.fetch.ensures.looks.state told)
    c.fetch.ensures.read.has_read.same (c.fetch.ensures.read.has_read.holds told) (c.say_bytes.ensures.holds told)
