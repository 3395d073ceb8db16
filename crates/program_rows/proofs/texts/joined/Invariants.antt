use Rattle.std.proofs.Common.{◌≡◌, take, flat_map}
use Rattle.program_rows.proofs.texts.joined.Given as goal

abbrev pub invariant-loop-index : goal.invariant-loop-index
invariant-loop-index l = l.text ≡ flat_map (λ part. part.now) (take l.index l.parts)
