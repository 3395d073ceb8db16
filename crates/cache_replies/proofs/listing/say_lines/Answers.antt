use Rattle.std.proofs.Common.{◌≡◌, ◌∙◌, ◌++◌, ◌<◌, ◌∷◌, [], ap₂, false, ℕ, List, arith, drop, length, refl, rules, subst, sym, take}
use Rattle.std.specs.Prelude.{◌==◌}
use Rattle.std.proofs.lemmas.List.{take-append-drop}
use Rattle.cache_theory.specs.Text.{line, spaced}
use Rattle.cache_replies.specs.Said.{saying}
use Rattle.cache_replies.specs.Saying.{CutsIn, SaysMore}
use Rattle.cache_replies.proofs.SaidFront.{cuts_before, cuts_part, says_part}
use Rattle.cache_replies.proofs.SaidMore.{when_err}
use Rattle.cache_replies.proofs.listing.say_lines.Goals as goal

-- a list in two parts
parts : {X : Type 0} (left part rest : List X) (n : ℕ) → part ≡ take n left → rest ≡ drop n left → left ≡ part ++ rest
parts {X} left part rest n front back = sym (ap₂ (λ (a b : List X). a ++ b) front back ∙ take-append-drop n left)

some_left : {X : Type 0} (left : List X) → (length left == 0) ≡ false → 0 < length left
some_left [] none = absurd (cc)
some_left (x ∷ xs) some = omega arith

pub returns-in_err-lines-clause-cut : goal.returns-in_err-lines-clause-cut
returns-in_err-lines-clause-cut g c =
    let left = c.loop-left.left.now in
    when_err c.from_residual.result _
    (cuts_before (λ x. line (g.T.Listed.words x)) (λ x. spaced (g.T.Listed.words x)) c.args.items.now left (saying g.K.Sink c.args.reply.now c.args.sink.now) (saying g.K.Sink c.loop-left.reply c.loop-left.sink) (λ x. refl)
    (some_left left (sym c.is_empty.ensures ∙ c.loop-left-test.true)) c.loop-left.invariant.says)

pub returns-in_err-put-clause-cut : goal.returns-in_err-put-clause-cut
returns-in_err-put-clause-cut g c =
    let s1 = saying g.K.Sink c.loop-left.reply c.loop-left.sink in
    let out = g.K.Sink.taken c.put.new.sink in
    when_err c.from_residual-in_err-put.result _
    (cuts_part (λ x. line (g.T.Listed.words x)) c.args.items.now c.loop-left.left.now c.split_at.result.0.now c.split_at.result.1.now (saying g.K.Sink c.args.reply.now c.args.sink.now) s1 c.loop-left.invariant.says
    (parts c.loop-left.left.now _ _ _ c.split_at.ensures.front c.split_at.ensures.back) out (subst (λ (t : List ℕ). CutsIn s1 out t) (c.as_slice.ensures ∙ c.in_ok-lines.ensures) c.in_err-put.ensures.cut))

pub loop-left-preserved : goal.loop-left-preserved
loop-left-preserved g c =
    let s1 = saying g.K.Sink c.loop-left.reply c.loop-left.sink in
    let s2 = saying g.K.Sink c.put.new.self c.put.new.sink in
    record {
      says = says_part (λ x. line (g.T.Listed.words x)) c.args.items.now c.loop-left.left.now c.split_at.result.0.now c.split_at.result.1.now (saying g.K.Sink c.args.reply.now c.args.sink.now) s1 c.loop-left.invariant.says
          (parts c.loop-left.left.now _ _ _ c.split_at.ensures.front c.split_at.ensures.back) s2 (subst (λ (t : List ℕ). SaysMore s1 s2 t) (c.as_slice.ensures ∙ c.in_ok-lines.ensures) c.in_ok-put.ensures.said);
      sink = search rules;
    }
