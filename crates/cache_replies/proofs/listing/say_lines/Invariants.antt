use Rattle.std.proofs.Common.{◌≡◌, length}
use Rattle.cache_replies.specs.Said.{saying}
use Rattle.cache_replies.proofs.SaidFront.{SaysFront}
use Rattle.cache_theory.specs.Text.{line}
use Rattle.cache_replies.proofs.listing.say_lines.Given as goal

-- the lines so far were said, and the sink did not fail
abbrev pub invariant-loop-left : goal.invariant-loop-left
invariant-loop-left g l = record {
  says : SaysFront (λ x. line (g.T.Listed.words x)) l.fn.items l.left (saying g.K.Sink l.fn.reply l.fn.sink) (saying g.K.Sink l.reply l.sink);
  sink : g.K.Sink.faults l.sink ≡ g.K.Sink.faults l.fn.sink;
}

abbrev pub decreases-loop-left : goal.decreases-loop-left
decreases-loop-left g l = length l.left
