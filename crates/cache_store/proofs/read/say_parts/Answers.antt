use Rattle.std.proofs.Common.{◌≡◌, ◌∙◌, ◌+◌, ◌-◌, ◌<◌, List, ℕ, ap, drop, rules, take, subst, sym, arith, length}
use Rattle.cache_theory.specs.Machine.{object_of}
use Rattle.disk_theory.specs.Account.{no_sync}
use Rattle.file_handles.proofs.Accounting.{syncs_same}
use Rattle.handle_table.specs.Kept.{Kept}
use Rattle.file_handles.specs.Kept.{kept}
use Rattle.file_handles.specs.Reading.{IsPartHeld}
use Rattle.cache_store.specs.Reads.{LastIsFirst}
use Rattle.cache_replies.specs.Said.{saying}
use Rattle.cache_replies.specs.Saying.{SaysMore}
use Rattle.cache_store.proofs.Performing.HandedFaults.{handed_disk}
use Rattle.cache_store.proofs.Reading.PartWhole.{all_is, front_sent, not_first, part, part_longer, says_with_part, stops_in_part}
use Rattle.cache_store.proofs.Reading.ReadsHeld.{goes_on, held_on, holds_then, len_of, none_past, part_held, recent_all, recent_more, same_then}
use Rattle.cache_replies.proofs.SaidMore.{when_err}
use Rattle.cache_store.proofs.read.say_parts.Goals as goal

pub returns-in_err-n-clause-stops : goal.returns-in_err-n-clause-stops
returns-in_err-n-clause-stops g c =
    when_err c.from_residual.result _ (λ told m represents.
    let body : List ℕ = (object_of m c.args.span.slot).version.body in
    let s0 = saying g.K.Sink c.args.reply.now c.args.sink.now in
    let s1 = saying g.K.Sink c.loop-done.reply c.loop-done.sink in
    let now = goes_on (g.D.Disk.state c.args.disk.now) (g.D.Disk.state c.loop-done.disk) (kept c.args.handles.now) (kept c.loop-done.handles) (c.loop-done.invariant.state told) c.loop-done.invariant.same (c.loop-done.invariant.holds told) m represents in
    stops_in_part body c.args.span.from c.args.span.len c.loop-done.done c.loop-done.invariant.bound s0 s1 (g.K.Sink.taken c.say_part.new.sink)
    (c.loop-done.invariant.says told m represents) (c.in_err-n.ensures.stops told m now))

pub returns-in_err-n-clause-front : goal.returns-in_err-n-clause-front
returns-in_err-n-clause-front g c = λ failed told m represents.
    let s0 = saying g.K.Sink c.args.reply.now c.args.sink.now in
    let s1 = saying g.K.Sink c.loop-done.reply c.loop-done.sink in
    let body : List ℕ = (object_of m c.args.span.slot).version.body in
    let disk = handed_disk c.from_residual.result c.in_err-n.field-0.0 c.say_part.result c.from_residual.ensures.1 c.in_err-n.was failed in
    let lt = c.loop-done-test.true in
    let later : 0 < c.loop-done.done =
    not_first c.loop-done.done (λ none.
    let there : c.args.span.from + c.loop-done.done ≡ c.args.span.from = omega (arith, none) in
    let left : c.args.span.len - c.loop-done.done ≡ c.args.span.len = omega (arith, none) in
    let held : IsPartHeld (kept c.loop-done.handles) c.args.span.slot (c.args.span.from + c.loop-done.done) (c.args.span.len - c.loop-done.done) =
    subst (λ (k : Kept). IsPartHeld k c.args.span.slot (c.args.span.from + c.loop-done.done) (c.args.span.len - c.loop-done.done)) (sym (c.loop-done.invariant.start none))
    (subst (λ at. IsPartHeld (kept c.args.handles.now) c.args.span.slot at (c.args.span.len - c.loop-done.done)) (sym there)
    (subst (λ l. IsPartHeld (kept c.args.handles.now) c.args.span.slot c.args.span.from l) (sym left) c.requires.first)) in
    (c.say_part.ensures.held held).1 disk) in
    front_sent body c.args.span.from c.args.span.len c.loop-done.done s0 s1 (g.K.Sink.taken c.say_part.new.sink) (c.loop-done.invariant.says told m represents)
    (c.loop-done.invariant.out later (omega (arith, lt))) (ap g.K.Sink.taken (c.say_part.ensures.unsaid disk).0) (c.loop-done.invariant.long told m represents later)

pub returns-then-n-eq0-clause-says : goal.returns-then-n-eq0-clause-says
returns-then-n-eq0-clause-says g c told m represents =
    let body : List ℕ = (object_of m c.args.span.slot).version.body in
    let s0 = saying g.K.Sink c.args.reply.now c.args.sink.now in
    let s1 = saying g.K.Sink c.loop-done.reply c.loop-done.sink in
    let s2 = saying g.K.Sink c.say_part.new.reply c.say_part.new.sink in
    let done = c.loop-done.done in
    let now = goes_on (g.D.Disk.state c.args.disk.now) (g.D.Disk.state c.loop-done.disk) (kept c.args.handles.now) (kept c.loop-done.handles) (c.loop-done.invariant.state told) c.loop-done.invariant.same (c.loop-done.invariant.holds told) m represents in
    let says = c.in_ok-n.ensures.says told m now in
    let zero = c.if-n-eq0.true in
    let lt = c.loop-done-test.true in
    let len = says.len in
    let none : 0 ≡ length (part body c.args.span.from c.args.span.len done) = omega (arith, zero, len) in
    let no_more : done + c.in_ok-n.n ≡ done = omega (arith, zero) in
    subst (λ (t : List ℕ). SaysMore s0 s2 t)
    (ap (λ n. take n (drop c.args.span.from body)) no_more ∙ all_is body c.args.span.from c.args.span.len done (omega (arith, lt)) none)
    (says_with_part body c.args.span.from c.args.span.len done c.in_ok-n.n len s0 s1 s2 (c.loop-done.invariant.says told m represents) says.says)

pub loop-done-preserved : goal.loop-done-preserved
loop-done-preserved g c = record {
  bound = (let le = c.in_ok-n.ensures.bound in let lt = c.loop-done-test.true in omega (arith, le, lt));
  says = λ told m represents.
      let body : List ℕ = (object_of m c.args.span.slot).version.body in
      let s0 = saying g.K.Sink c.args.reply.now c.args.sink.now in
      let s1 = saying g.K.Sink c.loop-done.reply c.loop-done.sink in
      let s2 = saying g.K.Sink c.say_part.new.reply c.say_part.new.sink in
      let now = goes_on (g.D.Disk.state c.args.disk.now) (g.D.Disk.state c.loop-done.disk) (kept c.args.handles.now) (kept c.loop-done.handles) (c.loop-done.invariant.state told) c.loop-done.invariant.same (c.loop-done.invariant.holds told) m represents in
      let says = c.in_ok-n.ensures.says told m now in
      says_with_part body c.args.span.from c.args.span.len c.loop-done.done c.in_ok-n.n says.len s0 s1 s2 (c.loop-done.invariant.says told m represents) says.says;
  start = λ none. absurd (let more = c.if-n-eq0.false in omega (arith, none, more));
  out = λ some less. c.in_ok-n.ensures.sent (let lt = c.loop-done-test.true in omega (arith, less, lt));
  long = λ told m represents.
      let body : List ℕ = (object_of m c.args.span.slot).version.body in
      let now = goes_on (g.D.Disk.state c.args.disk.now) (g.D.Disk.state c.loop-done.disk) (kept c.args.handles.now) (kept c.loop-done.handles) (c.loop-done.invariant.state told) c.loop-done.invariant.same (c.loop-done.invariant.holds told) m represents in
      part_longer body c.args.span.from c.args.span.len c.loop-done.done c.in_ok-n.n (c.in_ok-n.ensures.says told m now).len (c.loop-done.invariant.long told m represents);
  same = same_then (kept c.args.handles.now) (kept c.loop-done.handles) (kept c.say_part.new.handles) c.loop-done.invariant.same c.say_part.ensures.read.same;
  holds = λ told.
      holds_then (g.D.Disk.state c.args.disk.now) (g.D.Disk.state c.loop-done.disk) (kept c.args.handles.now) (kept c.loop-done.handles) (kept c.say_part.new.handles) (c.loop-done.invariant.state told)
      c.loop-done.invariant.same (c.loop-done.invariant.holds told) (c.say_part.ensures.read.holds told);
  held = λ all.
      let so_far = c.loop-done.invariant.held all in
      let lt = c.loop-done-test.true in
      let part = held_on (kept c.args.handles.now) (kept c.loop-done.handles) c.args.span.slot (c.args.span.from + c.loop-done.done) (c.args.span.len - c.loop-done.done) c.loop-done.invariant.same so_far.1
      (part_held (kept c.args.handles.now) c.args.span.slot c.args.span.from c.args.span.len c.loop-done.done all (omega (arith, lt))) in
      ((c.say_part.ensures.held part).0 ∙ so_far.0, λ n i some. c.say_part.ensures.read.none_lost part n i (so_far.1 n i some));
  recent = λ told.
      let some = c.requires.told told in
      let lt = c.loop-done-test.true in
      let more = c.if-n-eq0.false in
      let now = goes_on (g.D.Disk.state c.args.disk.now) (g.D.Disk.state c.loop-done.disk) (kept c.args.handles.now) (kept c.loop-done.handles) (c.loop-done.invariant.state told) c.loop-done.invariant.same (c.loop-done.invariant.holds told) some.0 some.1 in
      let says = c.in_ok-n.ensures.says told some.0 now in
      recent_more (kept c.args.handles.now) (kept c.loop-done.handles) c.args.span.slot c.args.span.from c.args.span.len c.loop-done.done c.loop-done.invariant.same (object_of some.0 c.args.span.slot).version.body
      (len_of (kept c.args.handles.now) some.0 some.1.0 some.1.1.handles c.args.span.slot c.requires.slot) (kept c.say_part.new.handles) c.in_ok-n.n says.len (omega (arith, more)) (omega (arith, lt)) c.in_ok-n.ensures.read.first;
  state = λ told. c.say_part.ensures.looks.state told ∙ c.loop-done.invariant.state told;
  calm = record {
    faults = search rules;
    no_change = λ told. c.say_part.ensures.looks.no_change told ∙ c.loop-done.invariant.calm.no_change told;
    syncs = syncs_same g.D.Disk no_sync _ _ _ c.loop-done.invariant.calm.syncs c.say_part.ensures.looks.unsynced;
  };
  unsynced = λ told. c.say_part.ensures.looks.unsynced told ∙ c.loop-done.invariant.unsynced told;
  sink = search rules;
}

pub returns-clause-says : goal.returns-clause-says
returns-clause-says g c told m represents =
    let body : List ℕ = (object_of m c.args.span.slot).version.body in
    let s0 = saying g.K.Sink c.args.reply.now c.args.sink.now in
    let s1 = saying g.K.Sink c.loop-done.reply c.loop-done.sink in
    let le = c.loop-done.invariant.bound in
    let past = c.loop-done-test.false in
    let all : c.loop-done.done ≡ c.args.span.len = omega (arith, le, past) in
    subst (λ (n : ℕ). SaysMore s0 s1 (take n (drop c.args.span.from body))) all (c.loop-done.invariant.says told m represents)

pub say_part-requires-clause-told : goal.say_part-requires-clause-told
say_part-requires-clause-told g c = λ told.
    let some = c.requires.told told in
    (some.0, goes_on (g.D.Disk.state c.args.disk.now) (g.D.Disk.state c.loop-done.disk) (kept c.args.handles.now) (kept c.loop-done.handles) (c.loop-done.invariant.state told) c.loop-done.invariant.same (c.loop-done.invariant.holds told) some.0 some.1)

pub returns-in_err-n-clause-holds : goal.returns-in_err-n-clause-holds
returns-in_err-n-clause-holds g c = λ told.
    holds_then (g.D.Disk.state c.args.disk.now) (g.D.Disk.state c.loop-done.disk) (kept c.args.handles.now) (kept c.loop-done.handles) (kept c.say_part.new.handles) (c.loop-done.invariant.state told)
    c.loop-done.invariant.same (c.loop-done.invariant.holds told) (c.say_part.ensures.read.holds told)

pub returns-in_err-n-clause-held : goal.returns-in_err-n-clause-held
returns-in_err-n-clause-held g c = λ all.
    let so_far = c.loop-done.invariant.held all in
    let lt = c.loop-done-test.true in
    (c.say_part.ensures.held
    (held_on (kept c.args.handles.now) (kept c.loop-done.handles) c.args.span.slot (c.args.span.from + c.loop-done.done) (c.args.span.len - c.loop-done.done) c.loop-done.invariant.same so_far.1
    (part_held (kept c.args.handles.now) c.args.span.slot c.args.span.from c.args.span.len c.loop-done.done all (omega (arith, lt))))).0
    ∙ so_far.0

pub returns-then-n-eq0-clause-holds : goal.returns-then-n-eq0-clause-holds
returns-then-n-eq0-clause-holds g c = λ told.
    holds_then (g.D.Disk.state c.args.disk.now) (g.D.Disk.state c.loop-done.disk) (kept c.args.handles.now) (kept c.loop-done.handles) (kept c.say_part.new.handles) (c.loop-done.invariant.state told)
    c.loop-done.invariant.same (c.loop-done.invariant.holds told) (c.say_part.ensures.read.holds told)

pub returns-then-n-eq0-clause-held : goal.returns-then-n-eq0-clause-held
returns-then-n-eq0-clause-held g c = λ all.
    let so_far = c.loop-done.invariant.held all in
    let lt = c.loop-done-test.true in
    (c.say_part.ensures.held
    (held_on (kept c.args.handles.now) (kept c.loop-done.handles) c.args.span.slot (c.args.span.from + c.loop-done.done) (c.args.span.len - c.loop-done.done) c.loop-done.invariant.same so_far.1
    (part_held (kept c.args.handles.now) c.args.span.slot c.args.span.from c.args.span.len c.loop-done.done all (omega (arith, lt))))).0
    ∙ so_far.0

pub returns-then-n-eq0-clause-recent : goal.returns-then-n-eq0-clause-recent
returns-then-n-eq0-clause-recent g c = λ told.
    let some = c.requires.told told in
    let lt = c.loop-done-test.true in
    let zero = c.if-n-eq0.true in
    let k = kept c.args.handles.now in
    let j = kept c.loop-done.handles in
    let body : List ℕ = (object_of some.0 c.args.span.slot).version.body in
    let long = len_of k some.0 some.1.0 some.1.1.handles c.args.span.slot c.requires.slot in
    let now = goes_on (g.D.Disk.state c.args.disk.now) (g.D.Disk.state c.loop-done.disk) (kept c.args.handles.now) (kept c.loop-done.handles) (c.loop-done.invariant.state told) c.loop-done.invariant.same (c.loop-done.invariant.holds told) some.0 some.1 in
    let says = c.in_ok-n.ensures.says told some.0 now in
    let len = says.len in
    let none : 0 ≡ length (part body c.args.span.from c.args.span.len c.loop-done.done) = omega (arith, zero, len) in
    let unread = c.say_part.ensures.read.unread (none_past k j c.args.span.slot c.args.span.from c.args.span.len c.loop-done.done c.loop-done.invariant.same body long none (omega (arith, lt))) in
    subst (λ l. LastIsFirst k c.args.span.slot c.args.span.from c.args.span.len l) (sym unread)
    (recent_all k j c.args.span.slot c.args.span.from c.args.span.len c.loop-done.done c.loop-done.invariant.same body long none (omega (arith, lt)) (c.loop-done.invariant.recent told))

pub returns-clause-recent : goal.returns-clause-recent
returns-clause-recent g c = λ told.
    let le = c.loop-done.invariant.bound in
    let past = c.loop-done-test.false in
    let all : c.loop-done.done ≡ c.args.span.len = omega (arith, le, past) in
    subst (λ (n : ℕ). LastIsFirst (kept c.args.handles.now) c.args.span.slot c.args.span.from n (kept c.loop-done.handles)) all (c.loop-done.invariant.recent told)
