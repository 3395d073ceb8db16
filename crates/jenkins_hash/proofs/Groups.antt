-- The groups of bytes that are joined from two lists.
use Rattle.std.proofs.Common.{◌≡◌, ℕ, zero, suc, ◌+◌, ◌*◌, ◌/◌, ◌%◌, ◌<◌, ◌≤◌, List, [], ◌++◌, length, take, drop, refl, sym, ap, ◌∙◌, arith, add-zero, add-suc, length-append, length-drop}
use Rattle.std.proofs.lemmas.List.{take-append-le, drop-append-le, take_all, drop_at, drop-drop, append_assoc, take-append-drop, length-take-le, nil_from_length}
use Rattle.std.proofs.lemmas.List.Sums.{fold-append}
use Rattle.std.specs.Simd.{first_chunks}
use Rattle.jenkins_hash.specs.declared.words.Words.{Words}
use Rattle.jenkins_hash.specs.Hash.{absorb, absorb_all, tail}

-- the first list is k whole groups
chunks-append : (j k : ℕ) (p x : List ℕ) → length p ≡ k * 12 → first_chunks 12 (j + k) (p ++ x) ≡ first_chunks 12 k p ++ first_chunks 12 j x
chunks-append j zero p x e = let none : p ≡ [] = nil_from_length p (omega arith) in rw (none, add-zero) refl
chunks-append j (suc k) p x e =
    let le : 12 ≤ length p = omega arith in
    rw (add-suc j k, take-append-le 12 p x le, drop-append-le 12 p x le, chunks-append j k (drop 12 p) x (omega (arith, length-drop 12 p))) refl

absorb_all-append : (w : Words) (k : ℕ) (p x : List ℕ) → length p ≡ k * 12 → absorb_all w (p ++ x) ≡ absorb_all (absorb_all w p) x
absorb_all-append w k p x e =
    let count : length (p ++ x) / 12 ≡ length x / 12 + k = omega (arith, length-append p x) in
    let own : length p / 12 ≡ k = omega arith in
    rw (count, own, chunks-append (length x / 12) k p x e) (fold-append absorb w (first_chunks 12 k p) (first_chunks 12 (length x / 12) x))

tail-append : (k : ℕ) (p x : List ℕ) → length p ≡ k * 12 → tail (p ++ x) ≡ tail x
tail-append k p x e =
    let past : length (p ++ x) / 12 * 12 ≡ length p + length x / 12 * 12 = omega (arith, length-append p x) in
    rw (past, ← drop-drop (length x / 12 * 12) (length p) (p ++ x), drop_at p x (length p) refl) refl

-- bytes that do not fill a group
absorb_all_short : (w : Words) (s : List ℕ) → length s < 12 → absorb_all w s ≡ w
absorb_all_short w s h = let none : length s / 12 ≡ 0 = omega arith in rw none refl

tail_short : (s : List ℕ) → length s < 12 → tail s ≡ s
tail_short s h = let none : length s / 12 ≡ 0 = omega arith in rw none refl

-- bytes that are one group
absorb_all_one : (w : Words) (g : List ℕ) → length g ≡ 12 → absorb_all w g ≡ absorb w g
absorb_all_one w g e =
    let one : length g / 12 ≡ 1 = omega arith in
    let all : take 12 g ≡ g = take_all 12 g (omega arith) in
    rw (one, all) refl

length-tail : (m : List ℕ) → length (tail m) ≡ length m % 12
length-tail m = omega (arith, length-drop (length m / 12 * 12) m)

-- the whole groups of some bytes, as one list
abbrev front : List ℕ → List ℕ
front m = take (length m / 12 * 12) m

length-front : (m : List ℕ) → length (front m) ≡ length m / 12 * 12
length-front m = length-take-le (length m / 12 * 12) m (omega arith)

front-tail : (m d : List ℕ) → front m ++ (tail m ++ d) ≡ m ++ d
front-tail m d = sym (append_assoc (front m) (tail m) d) ∙ ap (λ (s : List ℕ). s ++ d) (take-append-drop (length m / 12 * 12) m)

absorb_all-front : (w : Words) (m : List ℕ) → absorb_all w m ≡ absorb_all w (front m)
absorb_all-front w m =
    let short : length (tail m) < 12 = omega (arith, length-tail m) in
    sym (ap (λ (s : List ℕ). absorb_all w s) (take-append-drop (length m / 12 * 12) m))
    ∙ absorb_all-append w (length m / 12) (front m) (tail m) (length-front m) ∙ absorb_all_short (absorb_all w (front m)) (tail m) short

-- more bytes go on from the words of the first, with the bytes that were left before them
absorb_all_more : (w : Words) (m d : List ℕ) → absorb_all w (m ++ d) ≡ absorb_all (absorb_all w m) (tail m ++ d)
absorb_all_more w m d =
    sym (ap (λ (s : List ℕ). absorb_all w s) (front-tail m d))
    ∙ absorb_all-append w (length m / 12) (front m) (tail m ++ d) (length-front m)
    ∙ ap (λ (v : Words). absorb_all v (tail m ++ d)) (sym (absorb_all-front w m))

tail_more : (m d : List ℕ) → tail (m ++ d) ≡ tail (tail m ++ d)
tail_more m d =
    sym (ap (λ (s : List ℕ). tail s) (front-tail m d)) ∙ tail-append (length m / 12) (front m) (tail m ++ d) (length-front m)

-- more bytes, the first of which fill the group g
filled : (m f r g : List ℕ) → g ≡ tail m ++ f → tail m ++ (f ++ r) ≡ g ++ r
filled m f r g e = sym (append_assoc (tail m) f r) ∙ ap (λ (s : List ℕ). s ++ r) (sym e)

pub absorb_all_filled : (w : Words) (m f r g : List ℕ) → g ≡ tail m ++ f → length g ≡ 12 → absorb_all w (m ++ (f ++ r)) ≡ absorb_all (absorb (absorb_all w m) g) r
absorb_all_filled w m f r g e full =
    absorb_all_more w m (f ++ r) ∙ ap (λ (s : List ℕ). absorb_all (absorb_all w m) s) (filled m f r g e)
    ∙ absorb_all-append (absorb_all w m) 1 g r full ∙ ap (λ (v : Words). absorb_all v r) (absorb_all_one (absorb_all w m) g full)

pub tail_filled : (m f r g : List ℕ) → g ≡ tail m ++ f → length g ≡ 12 → tail (m ++ (f ++ r)) ≡ tail r
tail_filled m f r g e full = tail_more m (f ++ r) ∙ ap (λ (s : List ℕ). tail s) (filled m f r g e) ∙ tail-append 1 g r full

-- more bytes that fill no group
pub absorb_all_kept : (w : Words) (m d : List ℕ) → length (tail m ++ d) < 12 → absorb_all w (m ++ d) ≡ absorb_all w m
absorb_all_kept w m d short = absorb_all_more w m d ∙ absorb_all_short (absorb_all w m) (tail m ++ d) short

pub tail_kept : (m d : List ℕ) → length (tail m ++ d) < 12 → tail (m ++ d) ≡ tail m ++ d
tail_kept m d short = tail_more m d ∙ tail_short (tail m ++ d) short
