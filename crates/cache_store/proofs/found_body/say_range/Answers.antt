use Rattle.std.proofs.Common.{◌≡◌, ◌≤◌, ◌<◌, ◌+◌, ◌-◌, ◌%◌, ◌/◌, ◌∙◌, List, [], ℕ, ap, append-nil, arith, rules, subst, sym}
use Rattle.std.specs.Prelude.{drop, take}
use Rattle.std.proofs.lemmas.List.{length-take}
use Rattle.disk_theory.specs.State.{State, standing}
use Rattle.cache_store.specs.Prefix.{HasChunkAt, range_of}
use Rattle.cache_replies.specs.Said.{saying}
use Rattle.cache_replies.specs.Saying.{SaysMore}
use Rattle.cache_store.proofs.Reading.BodyRanges.{first_out, next_at, next_before, next_done, next_on, next_turned, part_cut, part_more, part_read, range_stop}
use Rattle.cache_store.proofs.Performing.HandedFaults.{handed_disk, sink_not_disk}
use Rattle.cache_replies.proofs.SaidMore.{when_err}
use Rattle.cache_replies.proofs.SayingLaws.{says_then}
use Rattle.cache_store.proofs.found_body.say_range.Goals as goal

pub returns-in_err-turn_to-clause-cut : goal.returns-in_err-turn_to-clause-cut
returns-in_err-turn_to-clause-cut g c =
    let r = c.args.range in
    let l = c.loop-at in
    let some : l.at < r.to = search rules in
    when_err c.from_residual.result _ (λ told content is fits.
    range_stop (take r.len content) r.from l.at r.to l.invariant.behind (saying g.K.Sink c.args.reply.now c.args.sink.now) (saying g.K.Sink l.reply l.sink)
    (l.invariant.says told content is fits) (g.K.Sink.taken c.turn_to.new.sink) some
    (let long = length-take r.len content in let inside = c.requires.inside.1 in omega (arith, long, inside, fits)) c.in_err-turn_to.ensures.cut)

pub returns-in_err-turn_to-clause-front : goal.returns-in_err-turn_to-clause-front
returns-in_err-turn_to-clause-front g c = λ failed told content is fits.
    let r = c.args.range in
    let l = c.loop-at in
    first_out (take r.len content) r.from r.to l.at (saying g.K.Sink c.args.reply.now c.args.sink.now) (saying g.K.Sink l.reply l.sink) (g.K.Sink.taken c.turn_to.new.sink)
    (l.invariant.done c.in_err-turn_to.ensures.later) (l.invariant.says told content is fits)
    (c.turn_to.ensures.out (handed_disk c.from_residual.result c.in_err-turn_to.field-0.0 c.turn_to.result c.from_residual.ensures.1 c.in_err-turn_to.was failed))

pub returns-in_err-put-clause-cut : goal.returns-in_err-put-clause-cut
returns-in_err-put-clause-cut g c =
    let s = g.D.Disk.state c.args.disk.now in
    let r = c.args.range in
    let l = c.loop-at in
    let s0 = saying g.K.Sink c.args.reply.now c.args.sink.now in
    let s1 = saying g.K.Sink l.reply l.sink in
    let s2 = saying g.K.Sink c.turn_to.new.reply c.turn_to.new.sink in
    when_err c.from_residual-in_err-put.result _ (λ told content is fits.
    let P : State → Type 0 = λ t. HasChunkAt (standing t r.place.now) r.len (l.at / 262144) c.turn_to.new.handles.chunk in
    let read : HasChunkAt (standing s r.place.now) r.len (l.at / 262144) c.turn_to.new.handles.chunk = subst P (l.invariant.state told) (c.in_ok-turn_to.ensures.chunk told) in
    let done : List ℕ = range_of r.from l.at (take r.len content) in
    let front : SaysMore s0 s2 done = subst (λ (t : List ℕ). SaysMore s0 s2 t) (append-nil done) (says_then s0 s1 s2 done [] (l.invariant.says told content is fits) c.in_ok-turn_to.ensures.said) in
    part_cut (take r.len content) r.from l.at r.to l.invariant.behind s0 s2 front (g.K.Sink.taken c.put.new.sink) c.cut.result.now l.invariant.before
    (c.cut.ensures ∙ ap (λ (xs : List ℕ). take (r.to - l.at) (drop (l.at % 262144) xs)) c.chunk_read.ensures ∙ part_read (standing s r.place.now) content r.len l.at (r.to - l.at) c.turn_to.new.handles.chunk is fits read)
    c.in_err-put.ensures.cut)

pub returns-in_err-put-clause-front : goal.returns-in_err-put-clause-front
returns-in_err-put-clause-front g c = λ failed. absurd (sink_not_disk c.from_residual-in_err-put.result c.in_err-put.field-0.0 c.from_residual-in_err-put.ensures.1 failed)

pub loop-at-preserved : goal.loop-at-preserved
loop-at-preserved g c =
    let s = g.D.Disk.state c.args.disk.now in
    let r = c.args.range in
    let l = c.loop-at in
    let s0 = saying g.K.Sink c.args.reply.now c.args.sink.now in
    let s1 = saying g.K.Sink l.reply l.sink in
    let s2 = saying g.K.Sink c.turn_to.new.reply c.turn_to.new.sink in
    let s3 = saying g.K.Sink c.put.new.self c.put.new.sink in
    let some : l.at < r.to = search rules in
    let next : next_at l.at r.to ≡ l.at + c.min-at.result = ap (λ n. l.at + n) (sym c.min-at.ensures) in
    record {
      says = λ told content is fits.
          let P : State → Type 0 = λ t. HasChunkAt (standing t r.place.now) r.len (l.at / 262144) c.turn_to.new.handles.chunk in
          let read : HasChunkAt (standing s r.place.now) r.len (l.at / 262144) c.turn_to.new.handles.chunk = subst P (l.invariant.state told) (c.in_ok-turn_to.ensures.chunk told) in
          let done : List ℕ = range_of r.from l.at (take r.len content) in
          let front : SaysMore s0 s2 done = subst (λ (t : List ℕ). SaysMore s0 s2 t) (append-nil done) (says_then s0 s1 s2 done [] (l.invariant.says told content is fits) c.in_ok-turn_to.ensures.said) in
          subst (λ n. SaysMore s0 s3 (range_of r.from n (take r.len content))) next
          (part_more (take r.len content) r.from l.at r.to l.invariant.behind s0 s2 front s3 c.cut.result.now
          (c.cut.ensures ∙ ap (λ (xs : List ℕ). take (r.to - l.at) (drop (l.at % 262144) xs)) c.chunk_read.ensures ∙ part_read (standing s r.place.now) content r.len l.at (r.to - l.at) c.turn_to.new.handles.chunk is fits read)
          c.in_ok-put.ensures.said);
      behind = let behind = l.invariant.behind in omega (arith, behind);
      before = subst (λ n. n ≤ r.to) next (next_before l.at r.to some);
      done = λ more. subst (λ n. next_at r.from r.to ≤ n) next (next_done r.from l.at r.to l.invariant.behind l.invariant.done);
      later = λ more left. subst (λ n. 0 < n / 262144) next (next_turned l.at r.to (subst (λ n. n < r.to) (sym next) left));
      kept = search rules;
      first = λ told here. absurd (let behind = l.invariant.behind in let on = next_on l.at r.to some in omega (arith, behind, here, on, next));
      state = search rules;
      calm = record { faults = search rules; no_change = search rules; syncs = search rules };
      unsynced = search rules;
      sink = search rules;
    }

pub returns-clause-said : goal.returns-clause-said
returns-clause-said g c =
    let all : c.loop-at.at ≡ c.args.range.to = search rules in
    λ told content is fits.
    subst (λ n. SaysMore (saying g.K.Sink c.args.reply.now c.args.sink.now) (saying g.K.Sink c.loop-at.reply c.loop-at.sink) (range_of c.args.range.from n (take c.args.range.len content))) all
    (c.loop-at.invariant.says told content is fits)
