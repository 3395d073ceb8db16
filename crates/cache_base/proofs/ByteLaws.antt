-- Big-endian numbers in bytes, and parts of lists of bytes.
use Rattle.std.proofs.Common.{◌≡◌, ℕ, zero, suc, ◌+◌, ◌^◌, ◌<◌, ◌≤◌, List, [], ◌∷◌, ◌++◌, length, take, drop, get_or, refl, sym, ap, ◌∙◌, arith}
use Rattle.std.specs.List.{AllByRecursion}
use Rattle.std.specs.Int.{w16, w64, from_be_bytes, to_be_bytes}
use Rattle.std.proofs.lemmas.Nat.{be_bytes_2, be_bytes_4, be_bytes_8, from_be_bytes-to_be_bytes_2, from_be_bytes-to_be_bytes_4}
use Rattle.std.proofs.lemmas.List.{take-append-drop, drop-drop}
use Rattle.std.proofs.Math.Seq.{take-nil}
use Rattle.cache_base.specs.Bytes.{AreBytes, be32, be16, be32_at}

-- a number at the beginning is read
pub be32_front : (n : ℕ) (rest : List ℕ) → n < 2 ^ 32 → be32_at (be32 n ++ rest) 0 ≡ n
be32_front n rest h = from_be_bytes-to_be_bytes_4 n h

pub be16_front : (n : ℕ) (rest : List ℕ) → n < 2 ^ 16 → from_be_bytes w16 (be16 n ++ rest) ≡ n
be16_front n rest h = from_be_bytes-to_be_bytes_2 n h

-- numbers each of which is below n
pub all_below : (n : ℕ) (xs : List ℕ) → ((i : ℕ) → get_or xs i 0 < n) → AllByRecursion (λ x. x < n) xs
all_below n [] h = tt
all_below n (x ∷ xs) h = (h 0, all_below n xs (λ i. h (suc i)))

-- parts of bytes are bytes
pub bytes_take : (n : ℕ) (xs : List ℕ) → AreBytes xs → AreBytes (take n xs)
bytes_take zero xs h = tt
bytes_take (suc n) [] h = tt
bytes_take (suc n) (x ∷ xs) h = (h.0, bytes_take n xs h.1)

pub bytes_drop : (n : ℕ) (xs : List ℕ) → AreBytes xs → AreBytes (drop n xs)
bytes_drop zero xs h = h
bytes_drop (suc n) [] h = tt
bytes_drop (suc n) (x ∷ xs) h = bytes_drop n xs h.1

-- past the end the read is 0
pub byte_at : (xs : List ℕ) → AreBytes xs → (i : ℕ) → get_or xs i 0 < 256
byte_at [] h zero = omega arith
byte_at [] h (suc i) = omega arith
byte_at (x ∷ xs) h zero = h.0
byte_at (x ∷ xs) h (suc i) = byte_at xs h.1 i

-- a prefix, and a prefix of what follows
pub take_more : (a b : ℕ) (xs : List ℕ) → take a xs ++ take b (drop a xs) ≡ take (a + b) xs
take_more zero b xs = let e : b ≡ 0 + b = omega arith in ap (λ n. take n xs) e
take_more (suc a) b [] = take-nil b ∙ sym (take-nil (suc a + b))
take_more (suc a) b (x ∷ xs) = let e : suc (a + b) ≡ suc a + b = omega arith in ap (λ ys. x ∷ ys) (take_more a b xs) ∙ ap (λ n. take n (x ∷ xs)) e

-- the number in the first bytes is spelled by these
pub four : (xs : List ℕ) → AreBytes xs → 4 ≤ length xs → be32 (be32_at xs 0) ≡ take 4 xs
four [] h l = absurd (omega (arith, l))
four (a ∷ []) h l = absurd (omega (arith, l))
four (a ∷ b ∷ []) h l = absurd (omega (arith, l))
four (a ∷ b ∷ c ∷ []) h l = absurd (omega (arith, l))
four (a ∷ b ∷ c ∷ d ∷ xs) h l = be_bytes_4 (a ∷ b ∷ c ∷ d ∷ []) (be32_at (a ∷ b ∷ c ∷ d ∷ xs) 0) refl
    (byte_at (a ∷ b ∷ c ∷ d ∷ []) (h.0, (h.1.0, (h.1.1.0, (h.1.1.1.0, tt))))) refl

-- a number in bytes fits its width
pub small32 : (xs : List ℕ) → AreBytes xs → be32_at xs 0 < 2 ^ 32
small32 xs h =
    let a = byte_at xs h 0 in let b = byte_at xs h 1 in let c = byte_at xs h 2 in let d = byte_at xs h 3 in
    omega (arith, a, b, c, d)

pub small16 : (xs : List ℕ) → AreBytes xs → from_be_bytes w16 xs < 2 ^ 16
small16 xs h =
    let a = byte_at xs h 0 in let b = byte_at xs h 1 in
    omega (arith, a, b)

pub small64 : (xs : List ℕ) → AreBytes xs → from_be_bytes w64 xs < 2 ^ 64
small64 xs h =
    let a = byte_at xs h 0 in let b = byte_at xs h 1 in let c = byte_at xs h 2 in let d = byte_at xs h 3 in
    let e = byte_at xs h 4 in let f = byte_at xs h 5 in let g = byte_at xs h 6 in let i = byte_at xs h 7 in
    omega (arith, a, b, c, d, e, f, g, i)

pub two : (xs : List ℕ) → AreBytes xs → 2 ≤ length xs → be16 (from_be_bytes w16 xs) ≡ take 2 xs
two [] h l = absurd (omega (arith, l))
two (a ∷ []) h l = absurd (omega (arith, l))
two (a ∷ b ∷ xs) h l = be_bytes_2 (a ∷ b ∷ []) (from_be_bytes w16 (a ∷ b ∷ xs)) refl (byte_at (a ∷ b ∷ []) (h.0, (h.1.0, tt))) refl

pub eight : (xs : List ℕ) → AreBytes xs → 8 ≤ length xs → to_be_bytes w64 (from_be_bytes w64 xs) ≡ take 8 xs
eight [] h l = absurd (omega (arith, l))
eight (a ∷ []) h l = absurd (omega (arith, l))
eight (a ∷ b ∷ []) h l = absurd (omega (arith, l))
eight (a ∷ b ∷ c ∷ []) h l = absurd (omega (arith, l))
eight (a ∷ b ∷ c ∷ d ∷ []) h l = absurd (omega (arith, l))
eight (a ∷ b ∷ c ∷ d ∷ e ∷ []) h l = absurd (omega (arith, l))
eight (a ∷ b ∷ c ∷ d ∷ e ∷ f ∷ []) h l = absurd (omega (arith, l))
eight (a ∷ b ∷ c ∷ d ∷ e ∷ f ∷ g ∷ []) h l = absurd (omega (arith, l))
eight (a ∷ b ∷ c ∷ d ∷ e ∷ f ∷ g ∷ x ∷ xs) h l =
    be_bytes_8 (take 8 (a ∷ b ∷ c ∷ d ∷ e ∷ f ∷ g ∷ x ∷ xs)) (from_be_bytes w64 (a ∷ b ∷ c ∷ d ∷ e ∷ f ∷ g ∷ x ∷ xs)) refl
    (byte_at (take 8 (a ∷ b ∷ c ∷ d ∷ e ∷ f ∷ g ∷ x ∷ xs)) (bytes_take 8 (a ∷ b ∷ c ∷ d ∷ e ∷ f ∷ g ∷ x ∷ xs) h)) refl

-- a part of a list, cut in two
pub cut : (block : List ℕ) (n k : ℕ) → take k (drop n block) ++ drop (n + k) block ≡ drop n block
cut block n k = ap (λ ys. take k (drop n block) ++ ys) (sym (drop-drop k n block)) ∙ take-append-drop k (drop n block)
