use Rattle.std.proofs.Common.{List, [], ◌++◌, ℕ, append-nil, ap, length, subst, arith}
use Rattle.cache_theory.specs.Machine.{object_of}
use Rattle.file_handles.specs.Reading.{part_of_body}
use Rattle.cache_replies.specs.Said.{saying}
use Rattle.cache_replies.specs.Saying.{CutsIn, SaysMore}
use Rattle.cache_store.proofs.Performing.CalmAccounts.{sink_fault_looks}
use Rattle.cache_store.proofs.Reading.PartWhole.{part_short}
use Rattle.cache_replies.proofs.SaidMore.{when_err}
use Rattle.cache_replies.proofs.SayingLaws.{cut_part, cuts_stop, says_then, stops_here}
use Rattle.cache_store.proofs.read.say_part.Goals as goal

pub returns-in_err-put-in-Ok-clause-stops : goal.returns-in_err-put-in-Ok-clause-stops
returns-in_err-put-in-Ok-clause-stops g c =
    let was = saying g.K.Sink c.args.reply.now c.args.sink.now in
    let out = g.K.Sink.taken c.put.new.sink in
    when_err c.from_residual.result _ (λ told m represents.
    let part = part_of_body (object_of m c.args.span.slot).version.body c.args.span.from c.args.span.len in
    cuts_stop was out part (subst (λ (t : List ℕ). CutsIn was out t) (c.in-Ok.ensures.part told m represents) c.in_err-put-in-Ok.ensures.cut))

pub returns-in_err-send_before-in-Ok-clause-stops : goal.returns-in_err-send_before-in-Ok-clause-stops
returns-in_err-send_before-in-Ok-clause-stops g c =
    let was = saying g.K.Sink c.args.reply.now c.args.sink.now in
    let mid = saying g.K.Sink c.put.new.self c.put.new.sink in
    let out = g.K.Sink.taken c.send_before.new.sink in
    when_err c.from_residual-in_err-send_before-in-Ok.result _ (λ told m represents before text said.
    let part = part_of_body (object_of m c.args.span.slot).version.body c.args.span.from c.args.span.len in
    let says : SaysMore was mid part = subst (λ (t : List ℕ). SaysMore was mid t) (c.in-Ok.ensures.part told m represents) c.in_ok-put-in-Ok.ensures.said in
    cut_part before out (text ++ part) (c.in_err-send_before-in-Ok.ensures.cut before (text ++ part) (says before text said)))

pub returns-in_ok-send_before-in-Ok-clause-says : goal.returns-in_ok-send_before-in-Ok-clause-says
returns-in_ok-send_before-in-Ok-clause-says g c told m represents =
    let was = saying g.K.Sink c.args.reply.now c.args.sink.now in
    let mid = saying g.K.Sink c.put.new.self c.put.new.sink in
    let now = saying g.K.Sink c.send_before.new.self c.send_before.new.sink in
    let body : List ℕ = (object_of m c.args.span.slot).version.body in
    let part = part_of_body body c.args.span.from c.args.span.len in
    let is = c.in-Ok.ensures.part told m represents in
    let long = ap length is in
    let short = part_short body c.args.span.from c.args.span.len in
    let least = c.min-n.ensures in
    let says : SaysMore was mid part = subst (λ (t : List ℕ). SaysMore was mid t) is c.in_ok-put-in-Ok.ensures.said in
    record {
      len = omega (arith, long, short, least);
      says = subst (λ (t : List ℕ). SaysMore was now t) (append-nil part) (says_then was mid now part [] says c.in_ok-send_before-in-Ok.ensures.said);
    }

pub returns-in-Err-clause-stops : goal.returns-in-Err-clause-stops
returns-in-Err-clause-stops g c told m represents = stops_here (saying g.K.Sink c.args.reply.now c.args.sink.now) (part_of_body (object_of m c.args.span.slot).version.body c.args.span.from c.args.span.len)

pub returns-in_err-put-in-Ok-clause-looks : goal.returns-in_err-put-in-Ok-clause-looks
returns-in_err-put-in-Ok-clause-looks g c =
    sink_fault_looks g.D.Disk c.in_err-put-in-Ok.field-0.0 c.from_residual.result c.args.disk.now c.read_part.new.disk c.from_residual.ensures.1 c.in-Ok.ensures.looks

pub returns-in_err-send_before-in-Ok-clause-looks : goal.returns-in_err-send_before-in-Ok-clause-looks
returns-in_err-send_before-in-Ok-clause-looks g c =
    sink_fault_looks g.D.Disk c.in_err-send_before-in-Ok.field-0.0 c.from_residual-in_err-send_before-in-Ok.result c.args.disk.now c.read_part.new.disk
    c.from_residual-in_err-send_before-in-Ok.ensures.1 c.in-Ok.ensures.looks
