use Rattle.std.proofs.Common.{[], ◌≡◌, ◌∷◌, ◌∙◌, List, Option, Result, ℕ, codes, decimal, subst, sym}
use Rattle.std.specs.Prelude.{OnErr}
use Rattle.cache_check.specs.declared.finding.Finding.{Finding}
use Rattle.cache_replies.specs.Answers.{left_to_say}
use Rattle.cache_replies.specs.Said.{Saying, saying}
use Rattle.cache_replies.specs.Saying.{CutsIn, SaysMore}
use Rattle.cache_replies.specs.declared.answered.Answered.{Answered}
use Rattle.cache_replies.specs.declared.verdict.Verdict.{Verdict}
use Rattle.cache_io.specs.declared.sink.SinkFault.{SinkFault}
use Rattle.cache_theory.specs.Text.{findings_text, refusal_words, spaced}
use Rattle.cache_replies.proofs.SaidMore.{when_err}
use Rattle.cache_replies.proofs.SayingLaws.{cuts_front, cuts_line, cuts_then}
use Rattle.cache_replies.proofs.saying.say_rest.Goals as goal

-- of an answer by another name the same is cut
answer_cut : {a b : Answered} (r : Result Verdict SinkFault) (was : Saying) (now : Option (List ℕ)) → a ≡ b → OnErr r (CutsIn was now (left_to_say b)) → OnErr r (CutsIn was now (left_to_say a))
answer_cut r was now same cut = subst (λ (x : Answered). OnErr r (CutsIn was now (left_to_say x))) (sym same) cut

pub returns-in-Done-clause-cut : goal.returns-in-Done-clause-cut
returns-in-Done-clause-cut g c = answer_cut c.say_ok.result (saying g.K.Sink c.args.reply.now c.args.sink.now) (g.K.Sink.taken c.say_ok.new.sink) c.in-Done.is c.say_ok.ensures.cut

pub returns-in-NoneThere-clause-cut : goal.returns-in-NoneThere-clause-cut
returns-in-NoneThere-clause-cut g c = answer_cut c.say_ok-in-NoneThere.result (saying g.K.Sink c.args.reply.now c.args.sink.now) (g.K.Sink.taken c.say_ok-in-NoneThere.new.sink) c.in-NoneThere.is c.say_ok-in-NoneThere.ensures.cut

pub returns-in-Yes-clause-cut : goal.returns-in-Yes-clause-cut
returns-in-Yes-clause-cut g c = answer_cut c.say_ok-in-Yes.result (saying g.K.Sink c.args.reply.now c.args.sink.now) (g.K.Sink.taken c.say_ok-in-Yes.new.sink) c.in-Yes.is c.say_ok-in-Yes.ensures.cut

pub returns-in-No-clause-cut : goal.returns-in-No-clause-cut
returns-in-No-clause-cut g c = answer_cut c.say_ok-in-No.result (saying g.K.Sink c.args.reply.now c.args.sink.now) (g.K.Sink.taken c.say_ok-in-No.new.sink) c.in-No.is c.say_ok-in-No.ensures.cut

pub returns-in-Unknown-clause-cut : goal.returns-in-Unknown-clause-cut
returns-in-Unknown-clause-cut g c = answer_cut c.say_ok-in-Unknown.result (saying g.K.Sink c.args.reply.now c.args.sink.now) (g.K.Sink.taken c.say_ok-in-Unknown.new.sink) c.in-Unknown.is c.say_ok-in-Unknown.ensures.cut

pub returns-in-Ready-clause-cut : goal.returns-in-Ready-clause-cut
returns-in-Ready-clause-cut g c = answer_cut c.say_ok-in-Ready.result (saying g.K.Sink c.args.reply.now c.args.sink.now) (g.K.Sink.taken c.say_ok-in-Ready.new.sink) c.in-Ready.is c.say_ok-in-Ready.ensures.cut

pub returns-in_err-line-in-Updating-clause-cut : goal.returns-in_err-line-in-Updating-clause-cut
returns-in_err-line-in-Updating-clause-cut g c =
    let s0 = saying g.K.Sink c.args.reply.now c.args.sink.now in
    answer_cut c.from_residual.result s0 s0.taken c.in-Updating.is (when_err c.from_residual.result _ (cuts_line s0 (spaced (codes "updating" ∷ decimal c.in-Updating.names ∷ []))))

pub returns-in_ok-line-in-Updating-clause-cut : goal.returns-in_ok-line-in-Updating-clause-cut
returns-in_ok-line-in-Updating-clause-cut g c =
    let s0 = saying g.K.Sink c.args.reply.now c.args.sink.now in
    let out = g.K.Sink.taken c.say_ok-in-Updating.new.sink in
    answer_cut c.say_ok-in-Updating.result s0 out c.in-Updating.is
    (subst (λ (t : List ℕ). OnErr c.say_ok-in-Updating.result (CutsIn s0 out t)) (c.as_slice.ensures ∙ c.in_ok-line-in-Updating.ensures) c.say_ok-in-Updating.ensures.cut)

pub returns-in_err-line-in-Rebuilt-clause-cut : goal.returns-in_err-line-in-Rebuilt-clause-cut
returns-in_err-line-in-Rebuilt-clause-cut g c =
    let s0 = saying g.K.Sink c.args.reply.now c.args.sink.now in
    answer_cut c.from_residual-in_err-line-in-Rebuilt.result s0 s0.taken c.in-Rebuilt.is (when_err c.from_residual-in_err-line-in-Rebuilt.result _ (cuts_line s0 (spaced (codes "rebuilt" ∷ decimal c.in-Rebuilt.records ∷ []))))

pub returns-in_ok-line-in-Rebuilt-clause-cut : goal.returns-in_ok-line-in-Rebuilt-clause-cut
returns-in_ok-line-in-Rebuilt-clause-cut g c =
    let s0 = saying g.K.Sink c.args.reply.now c.args.sink.now in
    let out = g.K.Sink.taken c.say_ok-in-Rebuilt.new.sink in
    answer_cut c.say_ok-in-Rebuilt.result s0 out c.in-Rebuilt.is
    (subst (λ (t : List ℕ). OnErr c.say_ok-in-Rebuilt.result (CutsIn s0 out t)) (c.as_slice-in-Rebuilt.ensures ∙ c.in_ok-line-in-Rebuilt.ensures) c.say_ok-in-Rebuilt.ensures.cut)

pub returns-in_err-line-in-Cleared-clause-cut : goal.returns-in_err-line-in-Cleared-clause-cut
returns-in_err-line-in-Cleared-clause-cut g c =
    let s0 = saying g.K.Sink c.args.reply.now c.args.sink.now in
    answer_cut c.from_residual-in_err-line-in-Cleared.result s0 s0.taken c.in-Cleared.is (when_err c.from_residual-in_err-line-in-Cleared.result _ (cuts_line s0 (spaced (codes "cleared" ∷ decimal c.in-Cleared.names ∷ []))))

pub returns-in_ok-line-in-Cleared-clause-cut : goal.returns-in_ok-line-in-Cleared-clause-cut
returns-in_ok-line-in-Cleared-clause-cut g c =
    let s0 = saying g.K.Sink c.args.reply.now c.args.sink.now in
    let out = g.K.Sink.taken c.say_ok-in-Cleared.new.sink in
    answer_cut c.say_ok-in-Cleared.result s0 out c.in-Cleared.is
    (subst (λ (t : List ℕ). OnErr c.say_ok-in-Cleared.result (CutsIn s0 out t)) (c.as_slice-in-Cleared.ensures ∙ c.in_ok-line-in-Cleared.ensures) c.say_ok-in-Cleared.ensures.cut)

pub returns-in-Checked-clause-cut : goal.returns-in-Checked-clause-cut
returns-in-Checked-clause-cut g c =
    let s0 = saying g.K.Sink c.args.reply.now c.args.sink.now in
    let out = g.K.Sink.taken c.say_findings.new.sink in
    answer_cut c.say_findings.result s0 out c.in-Checked.is
    (subst (λ (fs : List Finding). OnErr c.say_findings.result (CutsIn s0 out (findings_text fs))) c.as_slice-in-Checked.ensures c.say_findings.ensures.cut)

pub returns-in_err-text-in-Refused-clause-cut : goal.returns-in_err-text-in-Refused-clause-cut
returns-in_err-text-in-Refused-clause-cut g c =
    let s0 = saying g.K.Sink c.args.reply.now c.args.sink.now in
    let r = c.from_residual-in_err-text-in-Refused.result in
    answer_cut r s0 s0.taken c.in-Refused.is (when_err r _ (cuts_line s0 (spaced (refusal_words c.in-Refused.refusal))))

pub returns-in_err-put-in-Refused-clause-cut : goal.returns-in_err-put-in-Refused-clause-cut
returns-in_err-put-in-Refused-clause-cut g c =
    let s0 = saying g.K.Sink c.args.reply.now c.args.sink.now in
    let out = g.K.Sink.taken c.put.new.sink in
    let words = spaced (refusal_words c.in-Refused.refusal) in
    let r = c.from_residual-in_err-put-in-Refused.result in
    answer_cut r s0 out c.in-Refused.is (when_err r _
    (cuts_front s0 out words (10 ∷ []) (subst (λ (t : List ℕ). CutsIn s0 out t) (c.as_bytes.ensures.value ∙ c.in_ok-text-in-Refused.ensures) c.in_err-put-in-Refused.ensures.cut)))

pub returns-in_err-put-in-Refused-2-clause-cut : goal.returns-in_err-put-in-Refused-2-clause-cut
returns-in_err-put-in-Refused-2-clause-cut g c =
    let s0 = saying g.K.Sink c.args.reply.now c.args.sink.now in
    let s1 = saying g.K.Sink c.put.new.self c.put.new.sink in
    let out = g.K.Sink.taken c.put-in-Refused.new.sink in
    let words = spaced (refusal_words c.in-Refused.refusal) in
    let r = c.from_residual-in_err-put-in-Refused-2.result in
    answer_cut r s0 out c.in-Refused.is (when_err r _
    (cuts_then s0 s1 out words (10 ∷ []) (subst (λ (t : List ℕ). SaysMore s0 s1 t) (c.as_bytes.ensures.value ∙ c.in_ok-text-in-Refused.ensures) c.in_ok-put-in-Refused.ensures.said) c.in_err-put-in-Refused-2.ensures.cut))
