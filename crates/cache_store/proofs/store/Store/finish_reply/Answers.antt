use Rattle.cache_replies.specs.Answers.{left_to_say}
use Rattle.cache_replies.specs.Said.{saying}
use Rattle.cache_store.proofs.Saying.ReplyLaws.{rest_cut, rest_said}
use Rattle.cache_replies.proofs.SaidMore.{when_err}
use Rattle.cache_store.proofs.store.Store.finish_reply.Goals as goal

pub returns-in_err-outcome-clause-cut : goal.returns-in_err-outcome-clause-cut
returns-in_err-outcome-clause-cut g c =
    when_err c.from_residual.result _
    (rest_cut (saying g.K.Sink c.args.self.now.reply c.args.sink.now) (g.K.Sink.taken c.say_rest.new.sink) (left_to_say c.args.answered) c.in_err-outcome.ensures.cut)

pub returns-in_err-send-clause-cut : goal.returns-in_err-send-clause-cut
returns-in_err-send-clause-cut g c =
    when_err c.from_residual-in_err-send.result _ (λ text before says.
    c.in_err-send.ensures.cut before text
    (rest_said (saying g.K.Sink c.args.self.now.reply c.args.sink.now) (saying g.K.Sink c.say_rest.new.reply c.say_rest.new.sink) (left_to_say c.args.answered) c.in_ok-outcome.ensures.says text before says))
