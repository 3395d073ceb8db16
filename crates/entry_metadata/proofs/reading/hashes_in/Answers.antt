use Rattle.std.proofs.Common.{arith, sym, ◌∙◌, ◌+◌, ◌*◌, ◌++◌, ◌∷◌, []}
use Rattle.std.proofs.lemmas.List.FromFn.{map-range_with_len_more}
use Rattle.cache_base.specs.Bytes.{be16_at}
use Rattle.entry_metadata.proofs.reading.hashes_in.Goals as goal

pub loop-i-preserved : goal.loop-i-preserved
loop-i-preserved c =
    c.in_ok-push.ensures.ok ∙ (λ j. c.loop-i.invariant j ++ c.u16_at.ensures j ∷ [])
    ∙ sym (map-range_with_len_more (λ i. be16_at c.args.block.now (4 + 2 * i)) 0 c.loop-i.i c.loop-i.i (omega arith))
