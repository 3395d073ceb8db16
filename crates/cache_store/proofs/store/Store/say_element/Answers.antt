use Rattle.std.proofs.Common.{List, ℕ, Bor, refl, subst, Ok}
use Rattle.std.specs.Prelude.{Option, option_map}
use Rattle.cache_theory.specs.Command.Command.{ElementOf}
use Rattle.cache_theory.specs.Command.Reply.{NoneThere, Refused, Value}
use Rattle.cache_theory.specs.Step.{element_reply}
use Rattle.file_handles.specs.Cache.{cache_at}
use Rattle.file_handles.specs.Carries.{Answers}
use Rattle.file_handles.specs.Kept.{kept}
use Rattle.cache_replies.specs.Said.{saying}
use Rattle.cache_replies.specs.declared.answered.Answered.TheVariants as answered
use Rattle.cache_store.proofs.Saying.ReplyLaws.{as_carried, value_cut, value_said}
use Rattle.cache_store.proofs.Saying.Unsaid.{unsaid_answers}
use Rattle.cache_store.proofs.store.Store.say_element.Goals as goal

pub returns-in_err-say_value-in-Ok-Some-clause-answers : goal.returns-in_err-say_value-in-Ok-Some-clause-answers
returns-in_err-say_value-in-Ok-Some-clause-answers g c s m is =
    let k = kept c.args.self.now.handles in
    let element = ElementOf c.args.slot c.args.name.now in
    let was = saying g.K.Sink c.args.self.now.reply c.args.sink.now in
    let now = saying g.K.Sink c.say_value.new.reply c.say_value.new.sink in
    let v : List ℕ = c.in-Ok-Some.value.now in
    let found : Answers k element (Value v) =
    subst (λ (o : Option (Bor (List ℕ))). Answers k element (element_reply (option_map (λ (x : Bor (List ℕ)). x.now) o))) c.in-Ok-Some.field-0-is c.in-Ok-Some.ensures.found in
    as_carried (cache_at k s) (cache_at k s) element (Value v) (found s) m is _ was.taken now
    (value_cut was c.requires.empty now v c.from_residual.result _ c.from_residual.ensures.1 c.in_err-say_value-in-Ok-Some.ensures.cut)

pub returns-in_ok-say_value-in-Ok-Some-clause-answers : goal.returns-in_ok-say_value-in-Ok-Some-clause-answers
returns-in_ok-say_value-in-Ok-Some-clause-answers g c s m is =
    let k = kept c.args.self.now.handles in
    let element = ElementOf c.args.slot c.args.name.now in
    let was = saying g.K.Sink c.args.self.now.reply c.args.sink.now in
    let now = saying g.K.Sink c.say_value.new.reply c.say_value.new.sink in
    let v : List ℕ = c.in-Ok-Some.value.now in
    let found : Answers k element (Value v) =
    subst (λ (o : Option (Bor (List ℕ))). Answers k element (element_reply (option_map (λ (x : Bor (List ℕ)). x.now) o))) c.in-Ok-Some.field-0-is c.in-Ok-Some.ensures.found in
    as_carried (cache_at k s) (cache_at k s) element (Value v) (found s) m is _ was.taken now
    (value_said was c.requires.empty now v c.in_ok-say_value-in-Ok-Some.ensures.says)

pub returns-in-Ok-None-clause-answers : goal.returns-in-Ok-None-clause-answers
returns-in-Ok-None-clause-answers g c s m is =
    let k = kept c.args.self.now.handles in
    let element = ElementOf c.args.slot c.args.name.now in
    let was = saying g.K.Sink c.args.self.now.reply c.args.sink.now in
    let found : Answers k element NoneThere =
    subst (λ (o : Option (Bor (List ℕ))). Answers k element (element_reply (option_map (λ (x : Bor (List ℕ)). x.now) o))) c.in-Ok-None.field-0-is c.in-Ok-None.ensures.found in
    as_carried (cache_at k s) (cache_at k s) element NoneThere (found s) m is _ was.taken was (unsaid_answers (Ok answered.NoneThere) tt NoneThere refl was c.requires.empty)

pub returns-in-Err-clause-answers : goal.returns-in-Err-clause-answers
returns-in-Err-clause-answers g c s m is =
    let k = kept c.args.self.now.handles in
    let was = saying g.K.Sink c.args.self.now.reply c.args.sink.now in
    as_carried (cache_at k s) (cache_at k s) (ElementOf c.args.slot c.args.name.now) (Refused c.in-Err.refusal) (c.in-Err.ensures.refused s) m is _ was.taken was
    (unsaid_answers (Ok (answered.Refused c.in-Err.refusal)) tt (Refused c.in-Err.refusal) refl was c.requires.empty)
