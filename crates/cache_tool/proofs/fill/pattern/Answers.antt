use Rattle.std.proofs.Common.{◌∙◌, ◌++◌, ◌∷◌, ◌%◌, ◌≡◌, [], ap, arith, rules, sym}
use Rattle.std.specs.List.{range_with_len}
use Rattle.std.specs.Prelude.{map}
use Rattle.std.proofs.lemmas.List.FromFn.{map-range_with_len_more}
use Rattle.cache_tool.proofs.fill.pattern.Goals as goal

pub loop-j-preserved : goal.loop-j-preserved
loop-j-preserved c =
    c.in_ok-push.ensures.ok ∙ (λ k. c.loop-j.invariant k ++ c.byte_at.ensures k ∷ [])
    ∙ sym (map-range_with_len_more (λ j. j % 256) 0 c.loop-j.j c.loop-j.j (omega arith))

pub returns : goal.returns
returns c =
    let all : c.loop-j.j ≡ 33022 = search rules in
    c.loop-j.invariant ∙ ap (λ n. map (λ j. j % 256) (range_with_len 0 n)) all
