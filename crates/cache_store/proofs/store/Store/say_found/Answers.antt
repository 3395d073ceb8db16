use Rattle.std.proofs.Common.{◌++◌, ◌∷◌, ◌∙◌, ◌/◌, [], length-append, ap, subst, sym, arith}
use Rattle.std.specs.Prelude.{take}
use Rattle.disk_theory.specs.State.{State, standing}
use Rattle.cache_store.specs.Prefix.{HasChunkAt, range_of}
use Rattle.cache_replies.specs.Said.{saying}
use Rattle.cache_replies.proofs.SaidMore.{of_err, of_ok}
use Rattle.cache_store.proofs.Performing.Stays.{noted_calm, noted_disk}
use Rattle.cache_replies.proofs.SayingLaws.{cuts_here}
use Rattle.cache_store.proofs.store.Store.say_found.Goals as goal

pub returns-in-Err-clause-cut : goal.returns-in-Err-clause-cut
returns-in-Err-clause-cut g c = λ told content is fits.
    let r = c.args.range in
    let bytes = range_of r.from r.to (take r.len content) in
    let head = length-append c.args.head.now (bytes ++ 10 ∷ []) in
    let rest = length-append bytes (10 ∷ []) in
    cuts_here (saying g.K.Sink c.args.self.now.reply c.args.sink.now) (c.args.head.now ++ (bytes ++ 10 ∷ [])) (omega (arith, head, rest))

pub returns-in-Err-clause-faulted : goal.returns-in-Err-clause-faulted
returns-in-Err-clause-faulted g c = noted_disk c.in-Err.fault c.look_fault.result c.look_fault.new.faulting c.look_fault.ensures.fault c.look_fault.ensures.faulting

pub returns-in-Err-clause-front : goal.returns-in-Err-clause-front
returns-in-Err-clause-front g c = λ calm failed. absurd (noted_calm c.in-Err.fault c.look_fault.result c.look_fault.new.faulting c.look_fault.ensures.fault c.look_fault.ensures.faulting calm failed)

pub say_framed-requires-clause-first : goal.say_framed-requires-clause-first
say_framed-requires-clause-first g c = λ told some.
    let r = c.args.range in
    let P : State → Type 0 = λ s. HasChunkAt (standing s r.place.now) r.len (r.from / 262144) c.first_chunk.new.handles.chunk in
    subst P (sym (c.in-Ok.ensures.looks.state told)) (c.in-Ok.ensures.chunk told some)

pub returns-clause-said : goal.returns-clause-said
returns-clause-said g c =
    of_ok c.say_framed.result _ _
    (λ says told content is fits. says told content (ap (λ s. standing s c.args.range.place.now) (c.in-Ok.ensures.looks.state told) ∙ is) fits)
    c.say_framed.ensures.said

pub returns-clause-cut : goal.returns-clause-cut
returns-clause-cut g c =
    of_err c.say_framed.result _ _
    (λ cuts told content is fits. cuts told content (ap (λ s. standing s c.args.range.place.now) (c.in-Ok.ensures.looks.state told) ∙ is) fits)
    c.say_framed.ensures.cut

pub returns-clause-front : goal.returns-clause-front
returns-clause-front g c = λ calm failed told content is fits.
    c.say_framed.ensures.front failed told content (ap (λ s. standing s c.args.range.place.now) (c.in-Ok.ensures.looks.state told) ∙ is) fits
