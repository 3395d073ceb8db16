-- What a function gives for each chunk of a body.
use Rattle.std.proofs.Common.{◌≡◌, ℕ, zero, suc, ◌+◌, ◌-◌, ◌*◌, ◌<◌, List, ◌∷◌, length, take, drop, refl, sym, ap, ◌∙◌, arith}
use Rattle.std.specs.Prelude.{map}
use Rattle.std.specs.List.{range_with_len}
use Rattle.std.proofs.lemmas.List.{drop-drop, length-drop}
use Rattle.cache_base.specs.Limits.{chunks}
use Rattle.chunk_store.specs.Chunks.{chunk}

-- what a function gives for each chunk
abbrev pub each_chunk : {X : Type 0} → (List ℕ → X) → List ℕ → List X
each_chunk f body = map (λ i. f (chunk body i)) (range_with_len 0 (chunks (length body)))

-- a list over numbers that are one more
shift_one : {X : Type 0} (f : ℕ → X) (a n : ℕ) → map f (range_with_len (a + 1) n) ≡ map (λ i. f (i + 1)) (range_with_len a n)
shift_one f a zero = refl
shift_one f a (suc n) = ap (λ xs. f (a + 1) ∷ xs) (shift_one f (a + 1) n)

-- the next chunk is one of what stands after the first chunk
next_chunk : (body : List ℕ) (i : ℕ) → chunk body (i + 1) ≡ chunk (drop 262144 body) i
next_chunk body i = ap (λ (xs : List ℕ). take 262144 xs) (ap (λ (n : ℕ). drop n body) (omega arith) ∙ sym (drop-drop (i * 262144) 262144 body))

one_more_chunk : (n m : ℕ) → 0 < n → m ≡ n - 262144 → chunks n ≡ suc (chunks m)
one_more_chunk n m some rest = omega (arith, some, rest)

-- what it gives for the first chunk, and for the others
pub first_chunk : {X : Type 0} (f : List ℕ → X) (body : List ℕ) → 0 < length body → each_chunk f body ≡ f (take 262144 body) ∷ each_chunk f (drop 262144 body)
first_chunk {X} f body some =
    let count : chunks (length body) ≡ suc (chunks (length (drop 262144 body))) = one_more_chunk (length body) (length (drop 262144 body)) some (length-drop 262144 body) in
    ap (λ (n : ℕ). map (λ i. f (chunk body i)) (range_with_len 0 n)) count
    ∙ ap (λ (xs : List X). f (take 262144 body) ∷ xs)
    (shift_one (λ i. f (chunk body i)) 0 (chunks (length (drop 262144 body)))
    ∙ (λ k. map (λ i. f (next_chunk body i k)) (range_with_len 0 (chunks (length (drop 262144 body))))))
