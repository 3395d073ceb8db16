use Rattle.std.proofs.Common.{[], ◌∷◌, ◌++◌, ◌∙◌, List, ℕ, ap, drop, length, subst, take, arith}
use Rattle.std.specs.Prelude.{codes}
use Rattle.cache_theory.specs.Machine.{object_of}
use Rattle.cache_replies.specs.Said.{saying}
use Rattle.cache_replies.specs.Saying.{CutsIn, SaysMore}
use Rattle.cache_theory.specs.Text.{with_number}
use Rattle.cache_store.proofs.Performing.HandedFaults.{front_then, handed_disk, sink_not_disk}
use Rattle.file_handles.specs.Reading.{part_of_body}
use Rattle.cache_replies.proofs.SaidMore.{when_err}
use Rattle.cache_replies.proofs.SayingLaws.{cuts_first, cuts_front, cuts_then, says_then, stops_cut}
use Rattle.cache_store.proofs.read.say_bytes.Goals as goal

pub returns-in_err-head-clause-cut : goal.returns-in_err-head-clause-cut
returns-in_err-head-clause-cut g c = when_err c.from_residual.result _ (λ told m represents fits. cuts_first (saying g.K.Sink c.args.reply.now c.args.sink.now) _ _)

pub returns-in_err-put-clause-cut : goal.returns-in_err-put-clause-cut
returns-in_err-put-clause-cut g c =
    let s0 = saying g.K.Sink c.args.reply.now c.args.sink.now in
    let out = g.K.Sink.taken c.put.new.sink in
    when_err c.from_residual-in_err-put.result _ (λ told m represents fits.
    let bytes : List ℕ = take c.args.span.len (drop c.args.span.from (object_of m c.args.span.slot).version.body) in
    let line = with_number (codes "data") (length bytes) in
    cuts_front s0 out line (bytes ++ 10 ∷ []) (subst (λ (t : List ℕ). CutsIn s0 out t) (c.as_slice.ensures ∙ c.in_ok-head.ensures ∙ ap (λ n. with_number (codes "data") n) fits) c.in_err-put.ensures.cut))

pub returns-in_err-say_parts-clause-cut : goal.returns-in_err-say_parts-clause-cut
returns-in_err-say_parts-clause-cut g c =
    let s0 = saying g.K.Sink c.args.reply.now c.args.sink.now in
    let s1 = saying g.K.Sink c.put.new.self c.put.new.sink in
    let out = g.K.Sink.taken c.say_parts.new.sink in
    when_err c.from_residual-in_err-say_parts.result _ (λ told m represents fits.
    let bytes : List ℕ = take c.args.span.len (drop c.args.span.from (object_of m c.args.span.slot).version.body) in
    let line = with_number (codes "data") (length bytes) in
    cuts_then s0 s1 out line (bytes ++ 10 ∷ []) (subst (λ (t : List ℕ). SaysMore s0 s1 t) (c.as_slice.ensures ∙ c.in_ok-head.ensures ∙ ap (λ n. with_number (codes "data") n) fits) c.in_ok-put.ensures.said)
    (stops_cut s1 out bytes (10 ∷ []) (omega arith) (c.in_err-say_parts.ensures.stops told m represents)))

pub returns-in_err-put-2-clause-cut : goal.returns-in_err-put-2-clause-cut
returns-in_err-put-2-clause-cut g c =
    let s0 = saying g.K.Sink c.args.reply.now c.args.sink.now in
    let s1 = saying g.K.Sink c.put.new.self c.put.new.sink in
    let s2 = saying g.K.Sink c.say_parts.new.reply c.say_parts.new.sink in
    let out = g.K.Sink.taken c.put-2.new.sink in
    when_err c.from_residual-in_err-put-2.result _ (λ told m represents fits.
    let bytes : List ℕ = take c.args.span.len (drop c.args.span.from (object_of m c.args.span.slot).version.body) in
    let line = with_number (codes "data") (length bytes) in
    cuts_then s0 s1 out line (bytes ++ 10 ∷ []) (subst (λ (t : List ℕ). SaysMore s0 s1 t) (c.as_slice.ensures ∙ c.in_ok-head.ensures ∙ ap (λ n. with_number (codes "data") n) fits) c.in_ok-put.ensures.said)
    (cuts_then s1 s2 out bytes (10 ∷ []) (c.in_ok-say_parts.ensures.says told m represents) c.in_err-put-2.ensures.cut))

pub returns-clause-says : goal.returns-clause-says
returns-clause-says g c told m represents fits =
    let s0 = saying g.K.Sink c.args.reply.now c.args.sink.now in
    let s1 = saying g.K.Sink c.put.new.self c.put.new.sink in
    let s2 = saying g.K.Sink c.say_parts.new.reply c.say_parts.new.sink in
    let s3 = saying g.K.Sink c.put-2.new.self c.put-2.new.sink in
    let bytes : List ℕ = take c.args.span.len (drop c.args.span.from (object_of m c.args.span.slot).version.body) in
    let line = with_number (codes "data") (length bytes) in
    says_then s0 s1 s3 line (bytes ++ 10 ∷ []) (subst (λ (t : List ℕ). SaysMore s0 s1 t) (c.as_slice.ensures ∙ c.in_ok-head.ensures ∙ ap (λ n. with_number (codes "data") n) fits) c.in_ok-put.ensures.said)
    (says_then s1 s2 s3 bytes (10 ∷ []) (c.in_ok-say_parts.ensures.says told m represents) c.in_ok-put-2.ensures.said)

pub returns-in_err-say_parts-clause-front : goal.returns-in_err-say_parts-clause-front
returns-in_err-say_parts-clause-front g c = λ failed told m represents.
    let s0 = saying g.K.Sink c.args.reply.now c.args.sink.now in
    let s1 = saying g.K.Sink c.put.new.self c.put.new.sink in
    let line = with_number (codes "data") c.args.span.len in
    front_then s0 s1 (g.K.Sink.taken c.say_parts.new.sink) line (part_of_body (object_of m c.args.span.slot).version.body c.args.span.from c.args.span.len)
    (subst (λ (t : List ℕ). SaysMore s0 s1 t) (c.as_slice.ensures ∙ c.in_ok-head.ensures) c.in_ok-put.ensures.said)
    (c.say_parts.ensures.front (handed_disk c.from_residual-in_err-say_parts.result c.in_err-say_parts.field-0.0 c.say_parts.result c.from_residual-in_err-say_parts.ensures.1 c.in_err-say_parts.was failed) told m represents)

pub returns-in_err-put-clause-front : goal.returns-in_err-put-clause-front
returns-in_err-put-clause-front g c = λ failed. absurd (sink_not_disk c.from_residual-in_err-put.result c.in_err-put.field-0.0 c.from_residual-in_err-put.ensures.1 failed)

pub returns-in_err-put-2-clause-front : goal.returns-in_err-put-2-clause-front
returns-in_err-put-2-clause-front g c = λ failed. absurd (sink_not_disk c.from_residual-in_err-put-2.result c.in_err-put-2.field-0.0 c.from_residual-in_err-put-2.ensures.1 failed)
