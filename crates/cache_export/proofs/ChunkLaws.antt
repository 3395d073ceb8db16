-- The chunks of a body whose prefix is the first of them.
use Rattle.std.proofs.Common.{◌≡◌, ℕ, ◌+◌, ◌<◌, min, List, [], ◌∷◌, ◌++◌, length, take, drop, ap, ◌∙◌, arith}
use Rattle.std.proofs.lemmas.List.{append-nil, drop_all, drop_at, length-append, take_all, take_at}
use Rattle.chunk_store.proofs.EachChunk.{each_chunk, first_chunk}

front_cut : (a b : List ℕ) → length a ≡ min 262144 (length a + length b) → take 262144 (a ++ b) ≡ a
front_cut a [] e = ap (take 262144) (append-nil a) ∙ take_all 262144 a (omega (arith, e))
front_cut a (x ∷ b) e = take_at a (x ∷ b) 262144 (omega (arith, e))

back_cut : (a b : List ℕ) → length a ≡ min 262144 (length a + length b) → drop 262144 (a ++ b) ≡ b
back_cut a [] e = ap (drop 262144) (append-nil a) ∙ drop_all 262144 a (omega (arith, e))
back_cut a (x ∷ b) e = drop_at a (x ∷ b) 262144 (omega (arith, e))

-- the prefix is the first chunk
pub chunk_joined : {X : Type 0} (f : List ℕ → X) (a b : List ℕ) → 0 < length a → length a ≡ min 262144 (length a + length b) → each_chunk f (a ++ b) ≡ f a ∷ each_chunk f b
chunk_joined f a b some e =
    first_chunk f (a ++ b) (omega (arith, some, length-append a b)) ∙ (λ i. f (front_cut a b e i) ∷ each_chunk f (back_cut a b e i))
