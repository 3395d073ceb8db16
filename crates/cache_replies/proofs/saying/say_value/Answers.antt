use Rattle.std.proofs.Common.{[], ◌∷◌, ◌++◌, ◌∙◌, List, ℕ, length, subst}
use Rattle.std.specs.Prelude.{codes}
use Rattle.cache_replies.specs.Said.{saying}
use Rattle.cache_replies.specs.Saying.{CutsIn, SaysMore}
use Rattle.cache_theory.specs.Text.{with_number}
use Rattle.cache_replies.proofs.SaidMore.{when_err}
use Rattle.cache_replies.proofs.SayingLaws.{cuts_first, cuts_front, cuts_then}
use Rattle.cache_replies.proofs.saying.say_value.Goals as goal

pub returns-in_err-head-clause-cut : goal.returns-in_err-head-clause-cut
returns-in_err-head-clause-cut g c = when_err c.from_residual.result _ (cuts_first (saying g.K.Sink c.args.reply.now c.args.sink.now) _ _)

pub returns-in_err-put-clause-cut : goal.returns-in_err-put-clause-cut
returns-in_err-put-clause-cut g c =
    let s0 = saying g.K.Sink c.args.reply.now c.args.sink.now in
    let out = g.K.Sink.taken c.put.new.sink in
    let value : List ℕ = c.args.value.now in
    when_err c.from_residual-in_err-put.result _
    (cuts_front s0 out (with_number (codes "value") (length value)) (value ++ 10 ∷ []) (subst (λ (t : List ℕ). CutsIn s0 out t) (c.as_slice.ensures ∙ c.in_ok-head.ensures) c.in_err-put.ensures.cut))

pub returns-in_err-put-2-clause-cut : goal.returns-in_err-put-2-clause-cut
returns-in_err-put-2-clause-cut g c =
    let s0 = saying g.K.Sink c.args.reply.now c.args.sink.now in
    let s1 = saying g.K.Sink c.put.new.self c.put.new.sink in
    let out = g.K.Sink.taken c.put-2.new.sink in
    let value : List ℕ = c.args.value.now in
    when_err c.from_residual-in_err-put-2.result _
    (cuts_then s0 s1 out (with_number (codes "value") (length value)) (value ++ 10 ∷ []) (subst (λ (t : List ℕ). SaysMore s0 s1 t) (c.as_slice.ensures ∙ c.in_ok-head.ensures) c.in_ok-put.ensures.said)
    (cuts_front s1 out value (10 ∷ []) c.in_err-put-2.ensures.cut))

pub returns-in_err-put-3-clause-cut : goal.returns-in_err-put-3-clause-cut
returns-in_err-put-3-clause-cut g c =
    let s0 = saying g.K.Sink c.args.reply.now c.args.sink.now in
    let s1 = saying g.K.Sink c.put.new.self c.put.new.sink in
    let s2 = saying g.K.Sink c.put-2.new.self c.put-2.new.sink in
    let out = g.K.Sink.taken c.put-3.new.sink in
    let value : List ℕ = c.args.value.now in
    when_err c.from_residual-in_err-put-3.result _
    (cuts_then s0 s1 out (with_number (codes "value") (length value)) (value ++ 10 ∷ []) (subst (λ (t : List ℕ). SaysMore s0 s1 t) (c.as_slice.ensures ∙ c.in_ok-head.ensures) c.in_ok-put.ensures.said)
    (cuts_then s1 s2 out value (10 ∷ []) c.in_ok-put-2.ensures.said c.in_err-put-3.ensures.cut))
