use Rattle.std.proofs.Common.{◌++◌, ◌-◌}
use Rattle.std.specs.Prelude.{take}
use Rattle.cache_store.specs.Prefix.{range_of}
use Rattle.cache_replies.specs.Said.{saying}
use Rattle.cache_store.proofs.Performing.HandedFaults.{front_then, handed_disk, sink_not_disk}
use Rattle.cache_replies.proofs.SaidMore.{when_err}
use Rattle.cache_replies.proofs.SayingLaws.{cuts_front, cuts_then, says_then}
use Rattle.file_handles.specs.Reading.{part_of_body}
use Rattle.cache_store.proofs.found_body.say_framed.Goals as goal

pub returns-in_err-put-clause-cut : goal.returns-in_err-put-clause-cut
returns-in_err-put-clause-cut g c =
    let r = c.args.range in
    when_err c.from_residual.result _ (λ told content is fits.
    cuts_front (saying g.K.Sink c.args.reply.now c.args.sink.now) (g.K.Sink.taken c.put.new.sink) c.args.frame.head.now (range_of r.from r.to (take r.len content) ++ c.args.frame.tail.now)
    c.in_err-put.ensures.cut)

pub returns-in_err-say_range-clause-cut : goal.returns-in_err-say_range-clause-cut
returns-in_err-say_range-clause-cut g c =
    let r = c.args.range in
    let s1 = saying g.K.Sink c.put.new.self c.put.new.sink in
    let out = g.K.Sink.taken c.say_range.new.sink in
    when_err c.from_residual-in_err-say_range.result _ (λ told content is fits.
    let bytes = range_of r.from r.to (take r.len content) in
    cuts_then (saying g.K.Sink c.args.reply.now c.args.sink.now) s1 out c.args.frame.head.now (bytes ++ c.args.frame.tail.now)
    c.in_ok-put.ensures.said
    (cuts_front s1 out bytes c.args.frame.tail.now (c.in_err-say_range.ensures.cut told content is fits)))

pub returns-in_err-put-2-clause-cut : goal.returns-in_err-put-2-clause-cut
returns-in_err-put-2-clause-cut g c =
    let r = c.args.range in
    let s1 = saying g.K.Sink c.put.new.self c.put.new.sink in
    let s2 = saying g.K.Sink c.say_range.new.reply c.say_range.new.sink in
    let out = g.K.Sink.taken c.put-2.new.sink in
    when_err c.from_residual-in_err-put-2.result _ (λ told content is fits.
    let bytes = range_of r.from r.to (take r.len content) in
    cuts_then (saying g.K.Sink c.args.reply.now c.args.sink.now) s1 out c.args.frame.head.now (bytes ++ c.args.frame.tail.now)
    c.in_ok-put.ensures.said
    (cuts_then s1 s2 out bytes c.args.frame.tail.now (c.in_ok-say_range.ensures.said told content is fits) c.in_err-put-2.ensures.cut))

pub returns-clause-said : goal.returns-clause-said
returns-clause-said g c told content is fits =
    let r = c.args.range in
    let bytes = range_of r.from r.to (take r.len content) in
    let s1 = saying g.K.Sink c.put.new.self c.put.new.sink in
    let s2 = saying g.K.Sink c.say_range.new.reply c.say_range.new.sink in
    let s3 = saying g.K.Sink c.put-2.new.self c.put-2.new.sink in
    says_then (saying g.K.Sink c.args.reply.now c.args.sink.now) s1 s3 c.args.frame.head.now (bytes ++ c.args.frame.tail.now)
    c.in_ok-put.ensures.said
    (says_then s1 s2 s3 bytes c.args.frame.tail.now (c.in_ok-say_range.ensures.said told content is fits) c.in_ok-put-2.ensures.said)

pub returns-in_err-put-clause-front : goal.returns-in_err-put-clause-front
returns-in_err-put-clause-front g c = λ failed. absurd (sink_not_disk c.from_residual.result c.in_err-put.field-0.0 c.from_residual.ensures.1 failed)

pub returns-in_err-put-2-clause-front : goal.returns-in_err-put-2-clause-front
returns-in_err-put-2-clause-front g c = λ failed. absurd (sink_not_disk c.from_residual-in_err-put-2.result c.in_err-put-2.field-0.0 c.from_residual-in_err-put-2.ensures.1 failed)

pub returns-in_err-say_range-clause-front : goal.returns-in_err-say_range-clause-front
returns-in_err-say_range-clause-front g c = λ failed told content is fits.
    let r = c.args.range in
    front_then (saying g.K.Sink c.args.reply.now c.args.sink.now) (saying g.K.Sink c.put.new.self c.put.new.sink) (g.K.Sink.taken c.say_range.new.sink)
    c.args.frame.head.now (part_of_body (take r.len content) r.from (r.to - r.from)) c.in_ok-put.ensures.said
    (c.say_range.ensures.front (handed_disk c.from_residual-in_err-say_range.result c.in_err-say_range.field-0.0 c.say_range.result c.from_residual-in_err-say_range.ensures.1 c.in_err-say_range.was failed)
    told content is fits)
