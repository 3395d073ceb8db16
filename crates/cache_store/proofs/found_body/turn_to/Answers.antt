use Rattle.std.proofs.Common.{◌∙◌, ◌++◌, [], append-nil, length, length-append, subst, sym, arith}
use Rattle.std.specs.Io.KnownBytes.{Appends}
use Rattle.std.proofs.Math.Seq.{take-append_seam}
use Rattle.cache_store.proofs.Performing.HandedFaults.{sink_not_disk}
use Rattle.cache_replies.proofs.SaidMore.{cut_more, when_err}
use Rattle.cache_store.proofs.found_body.turn_to.Goals as goal

pub returns-in_err-send-clause-cut : goal.returns-in_err-send-clause-cut
returns-in_err-send-clause-cut g c =
    when_err c.from_residual.result _ (λ more some before text said.
    cut_more before (g.K.Sink.taken c.send.new.sink) text more (c.in_err-send.ensures.cut before text said))

pub returns-in_err-read_found-clause-cut : goal.returns-in_err-read_found-clause-cut
returns-in_err-read_found-clause-cut g c =
    when_err c.from_residual-in_err-read_found.result _ (λ more some before text said. (
      length text,
      (
        (let long = length-append text more in omega (arith, long, some)),
        subst (Appends before (g.K.Sink.taken c.send.new.sink)) (sym (take-append_seam text more)) (c.in_ok-send.ensures.said before text said),
      ),
    ))

pub returns-in_err-send-clause-out : goal.returns-in_err-send-clause-out
returns-in_err-send-clause-out g c = λ failed. absurd (sink_not_disk c.from_residual.result c.in_err-send.field-0.0 c.from_residual.ensures.1 failed)

pub returns-in_err-read_found-clause-out : goal.returns-in_err-read_found-clause-out
returns-in_err-read_found-clause-out g c = λ failed before text said. (
  [],
  subst (Appends before (g.K.Sink.taken c.send.new.sink)) (sym (append-nil (text ++ []) ∙ append-nil text)) (c.in_ok-send.ensures.said before text said),
)
