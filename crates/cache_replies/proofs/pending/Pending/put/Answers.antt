use Rattle.std.proofs.Common.{◌++◌, subst, sym}
use Rattle.std.specs.Prelude.{List, ℕ}
use Rattle.cache_replies.specs.Said.{Said}
use Rattle.cache_replies.proofs.SaidMore.{cut_after, cut_more, of_err, of_ok, said_after, when_err}
use Rattle.cache_replies.proofs.pending.Pending.put.Goals as goal

pub returns-in_err-send-clause-cut : goal.returns-in_err-send-clause-cut
returns-in_err-send-clause-cut g c =
    when_err c.from_residual.result _ (λ before text said. cut_more before (g.K.Sink.taken c.send.new.sink) text c.args.b.now (c.in_err-send.ensures.cut before text said))

pub returns-then-b-gt-HELD_MAX-clause-said : goal.returns-then-b-gt-HELD_MAX-clause-said
returns-then-b-gt-HELD_MAX-clause-said g c =
    let mid = g.K.Sink.taken c.send.new.sink in
    let now = g.K.Sink.taken c.write_whole.new.sink in
    of_ok c.write_whole.result _ _ (λ out before text said.
    subst (λ (held : List ℕ). Said before (record { taken = now; held = held }) (text ++ c.args.b.now)) (sym c.in_ok-send.ensures.held)
    (said_after before mid now text c.args.b.now (c.in_ok-send.ensures.said before text said) out)) c.write_whole.ensures.all

pub returns-then-b-gt-HELD_MAX-clause-cut : goal.returns-then-b-gt-HELD_MAX-clause-cut
returns-then-b-gt-HELD_MAX-clause-cut g c =
    of_err c.write_whole.result _ _ (λ part before text said.
    cut_after before (g.K.Sink.taken c.send.new.sink) (g.K.Sink.taken c.write_whole.new.sink) text c.args.b.now (c.in_ok-send.ensures.said before text said) (part.0, (part.1, part.2)))
    c.write_whole.ensures.part

pub returns-in_err-send-2-clause-cut : goal.returns-in_err-send-2-clause-cut
returns-in_err-send-2-clause-cut g c =
    when_err c.from_residual-in_err-send-2.result _
    (λ before text said. cut_more before (g.K.Sink.taken c.send-then-b-as_slice.new.sink) text c.args.b.now (c.in_err-send-2.ensures.cut before text said))
