use Rattle.std.proofs.Common.{subst}
use Rattle.std.specs.Prelude.{List, ℕ}
use Rattle.cache_replies.specs.Said.{IsCut, saying}
use Rattle.cache_replies.proofs.SaidMore.{said_cut, when_err}
use Rattle.cache_replies.proofs.pending.Pending.send.Goals as goal

pub returns-in_err-write_whole-clause-cut : goal.returns-in_err-write_whole-clause-cut
returns-in_err-write_whole-clause-cut g c =
    let old = g.K.Sink.taken c.args.sink.now in
    let now = g.K.Sink.taken c.write_whole.new.sink in
    let part = c.in_err-write_whole.ensures.part in
    when_err c.from_residual.result _ (λ before text said. said_cut before (saying g.K.Sink c.args.self.now c.args.sink.now) now text said
    (subst (λ (held : List ℕ). IsCut old now held) c.as_slice-2.ensures.bytes (part.0, (part.1, part.2))))
