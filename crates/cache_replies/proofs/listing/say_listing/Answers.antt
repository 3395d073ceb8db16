use Rattle.std.proofs.Common.{◌∷◌, ◌++◌, [], ◌∙◌, List, ℕ, length, subst}
use Rattle.std.specs.Prelude.{decimal}
use Rattle.cache_theory.specs.Text.{spaced, with_number}
use Rattle.cache_replies.specs.Said.{saying}
use Rattle.cache_replies.specs.Saying.{CutsIn, SaysMore}
use Rattle.cache_replies.specs.Texts.{lines}
use Rattle.cache_replies.proofs.SaidMore.{of_err, when_err}
use Rattle.cache_replies.proofs.SayingLaws.{cuts_front, cuts_line, cuts_then}
use Rattle.cache_replies.proofs.listing.say_listing.Goals as goal

pub returns-in_err-head-clause-cut : goal.returns-in_err-head-clause-cut
returns-in_err-head-clause-cut g c =
    let xs = c.args.items.now in
    let s0 = saying g.K.Sink c.args.reply.now c.args.sink.now in
    let head = spaced (c.args.word.now ∷ decimal (length xs) ∷ []) in
    when_err c.from_residual.result _
    (cuts_front s0 s0.taken (head ++ 10 ∷ []) (lines g.T.Listed.words xs) (cuts_line s0 head))

pub returns-in_err-put-clause-cut : goal.returns-in_err-put-clause-cut
returns-in_err-put-clause-cut g c =
    let xs = c.args.items.now in
    let s0 = saying g.K.Sink c.args.reply.now c.args.sink.now in
    let out = g.K.Sink.taken c.put.new.sink in
    when_err c.from_residual-in_err-put.result _
    (cuts_front s0 out (with_number c.args.word.now (length xs)) (lines g.T.Listed.words xs) (subst (λ (t : List ℕ). CutsIn s0 out t) (c.as_slice.ensures ∙ c.in_ok-head.ensures) c.in_err-put.ensures.cut))

pub returns-clause-cut : goal.returns-clause-cut
returns-clause-cut g c =
    let xs = c.args.items.now in
    let s0 = saying g.K.Sink c.args.reply.now c.args.sink.now in
    let s1 = saying g.K.Sink c.put.new.self c.put.new.sink in
    of_err c.say_lines.result _ _
    (cuts_then s0 s1 (g.K.Sink.taken c.say_lines.new.sink) (with_number c.args.word.now (length xs)) (lines g.T.Listed.words xs) (subst (λ (t : List ℕ). SaysMore s0 s1 t) (c.as_slice.ensures ∙ c.in_ok-head.ensures) c.in_ok-put.ensures.said))
    c.say_lines.ensures.cut
