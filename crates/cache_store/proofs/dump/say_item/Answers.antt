use Rattle.std.proofs.Common.{List, ℕ, ◌∙◌, ap, subst}
use Rattle.disk_theory.specs.State.{standing}
use Rattle.disk_theory.specs.declared.place.Place.TheVariants.{Entry}
use Rattle.entry_metadata.specs.Meta.{meta_of}
use Rattle.cache_replies.specs.Said.{saying}
use Rattle.cache_replies.specs.Saying.{SaysMore, StopsIn}
use Rattle.cache_store.proofs.Dumping.DumpedItems.{item_text}
use Rattle.cache_replies.proofs.SaidMore.{of_err, of_ok, when_err}
use Rattle.cache_replies.proofs.SayingLaws.{cuts_stop, stops_here}
use Rattle.cache_store.proofs.dump.say_item.Goals as goal

pub returns-in_err-head-clause-stops : goal.returns-in_err-head-clause-stops
returns-in_err-head-clause-stops g c =
    when_err c.from_residual.result _ (λ told content is fits. stops_here (saying g.K.Sink c.args.reply.now c.args.sink.now) _)

pub returns-in_err-tail-clause-stops : goal.returns-in_err-tail-clause-stops
returns-in_err-tail-clause-stops g c =
    when_err c.from_residual-in_err-tail.result _ (λ told content is fits. stops_here (saying g.K.Sink c.args.reply.now c.args.sink.now) _)

pub returns-in_err-first_chunk-clause-stops : goal.returns-in_err-first_chunk-clause-stops
returns-in_err-first_chunk-clause-stops g c =
    when_err c.from_residual-in_err-first_chunk.result _ (λ told content is fits. stops_here (saying g.K.Sink c.args.reply.now c.args.sink.now) _)

pub returns-clause-said : goal.returns-clause-said
returns-clause-said g c =
    let m = meta_of c.args.found.meta.now in
    let was = saying g.K.Sink c.args.reply.now c.args.sink.now in
    let now = saying g.K.Sink c.say_framed.new.reply c.say_framed.new.sink in
    of_ok c.say_framed.result _ _
    (λ says told content is fits. subst (λ (text : List ℕ). SaysMore was now text)
    (item_text m c.bytes.result.now c.bytes-2.result.now content (c.bytes.ensures ∙ c.in_ok-head.ensures) (c.bytes-2.ensures ∙ c.in_ok-tail.ensures))
    (says told content (ap (λ s. standing s (Entry c.args.found.name.now)) (c.in_ok-first_chunk.ensures.looks.state told) ∙ is) fits))
    c.say_framed.ensures.said

pub returns-clause-stops : goal.returns-clause-stops
returns-clause-stops g c =
    let m = meta_of c.args.found.meta.now in
    let was = saying g.K.Sink c.args.reply.now c.args.sink.now in
    let out = g.K.Sink.taken c.say_framed.new.sink in
    of_err c.say_framed.result _ _
    (λ cuts told content is fits. subst (λ (text : List ℕ). StopsIn was out text)
    (item_text m c.bytes.result.now c.bytes-2.result.now content (c.bytes.ensures ∙ c.in_ok-head.ensures) (c.bytes-2.ensures ∙ c.in_ok-tail.ensures))
    (cuts_stop was out _ (cuts told content (ap (λ s. standing s (Entry c.args.found.name.now)) (c.in_ok-first_chunk.ensures.looks.state told) ∙ is) fits)))
    c.say_framed.ensures.cut
