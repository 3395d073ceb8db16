use Rattle.cache_replies.specs.Said.{saying}
use Rattle.cache_store.proofs.Saying.FaultLine.{fault_cut, fault_cut_all, fault_sent}
use Rattle.cache_store.proofs.store.Store.say_fault.Goals as goal

pub returns-in_err-put-clause-cut : goal.returns-in_err-put-clause-cut
returns-in_err-put-clause-cut g c =
    fault_cut c.from_residual.result (saying g.K.Sink c.clear.new.self c.args.sink.now) c.clear.ensures (g.K.Sink.taken c.put.new.sink) c.in_err-put.ensures.cut

pub returns-in_err-send-clause-cut : goal.returns-in_err-send-clause-cut
returns-in_err-send-clause-cut g c =
    fault_cut_all c.from_residual-in_err-send.result (saying g.K.Sink c.clear.new.self c.args.sink.now) c.clear.ensures (saying g.K.Sink c.put.new.self c.put.new.sink) (g.K.Sink.taken c.send.new.sink)
    c.in_ok-put.ensures.said c.in_err-send.ensures.cut

pub returns-clause-printed : goal.returns-clause-printed
returns-clause-printed g c =
    fault_sent (saying g.K.Sink c.clear.new.self c.args.sink.now) c.clear.ensures (saying g.K.Sink c.put.new.self c.put.new.sink) (g.K.Sink.taken c.send.new.sink) c.in_ok-put.ensures.said
    c.in_ok-send.ensures.said
