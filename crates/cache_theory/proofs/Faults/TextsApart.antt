-- Texts of which none begins the other.
use Rattle.std.proofs.Common.{◌≡◌, ◌≢◌, ℕ, ◌<◌, ◌≤◌, List, ◌++◌, length, take, true, false, sym, ap, ◌∙◌, arith, inl, inr, take-take, length-take, length-take-le}
use Rattle.std.proofs.Math.Seq.{take-append-le, take-append_seam}
use Rattle.std.proofs.lemmas.Bool.{cases_Bool}
use Rattle.std.proofs.lemmas.Slice.Eq.{bytes_eq-Decides}
use Rattle.cache_theory.specs.Faulted.{IsCutOf, begins_with}

-- they differ at one of the first two places
pub record Differ (xs ys : List ℕ) : Type 0 where
  pub at : ℕ
  pub early : at ≤ 2
  pub in_first : at ≤ length xs
  pub in_second : at ≤ length ys
  pub apart : take at xs ≢ take at ys

pub differ_back : (xs ys : List ℕ) → Differ xs ys → Differ ys xs
differ_back xs ys d = record { at = d.at; early = d.early; in_first = d.in_second; in_second = d.in_first; apart = λ e. d.apart (sym e) }

-- a test of bytes that fails
not_begun : (text bytes : List ℕ) → take (length text) bytes ≢ text → begins_with text bytes ≡ false
not_begun text bytes never = elim (cases_Bool (begins_with text bytes)) [
  | inl t ↦ absurd (never ((bytes_eq-Decides (take (length text) bytes) text).0 t))
  | inr f ↦ f
]

-- a text begins what it is a prefix of
pub text_begins : (text more : List ℕ) → begins_with text (text ++ more) ≡ true
text_begins text more = (bytes_eq-Decides (take (length text) (text ++ more)) text).1 (take-append_seam text more)

-- fewer bytes do not begin with it
pub short_never_begins : (text bytes : List ℕ) → length bytes < length text → begins_with text bytes ≡ false
short_never_begins text bytes short = not_begun text bytes (λ e. let long = ap length e in let cut = length-take (length text) bytes in omega (arith, long, cut, short))

-- nor does a text that differs, whatever follows it
pub other_never_begins : (xs ys more : List ℕ) → Differ xs ys → begins_with ys (xs ++ more) ≡ false
other_never_begins xs ys more d = not_begun ys (xs ++ more) (λ e.
    let front : take d.at ys ≡ take d.at xs = ap (take d.at) (sym e) ∙ take-take d.at (length ys) (xs ++ more) d.in_second ∙ take-append-le d.at xs more d.in_first in
    d.apart (sym front))

-- nor does a cut of one that differs, nor its own cut
pub cut_never_begins : (xs ys x : List ℕ) → Differ xs ys → IsCutOf xs x → begins_with ys x ≡ false
cut_never_begins xs ys x d cut = not_begun ys x (λ e.
    let n : ℕ = cut.0 in
    let long = ap length e in
    let whole = length-take (length ys) x in
    let size : length x ≡ n = ap length cut.1.1 ∙ length-take-le n xs (let lt = cut.1.0 in omega (arith, lt)) in
    let at : d.at ≤ n = let within = d.in_second in omega (arith, long, whole, size, within) in
    let front : take d.at ys ≡ take d.at xs = ap (take d.at) (sym e) ∙ take-take d.at (length ys) x d.in_second ∙ ap (take d.at) cut.1.1 ∙ take-take d.at n xs at in
    d.apart (sym front))

pub own_cut_never_begins : (text x : List ℕ) → IsCutOf text x → begins_with text x ≡ false
own_cut_never_begins text x cut =
    let size : length x ≡ cut.0 = ap length cut.1.1 ∙ length-take-le cut.0 text (let lt = cut.1.0 in omega (arith, lt)) in
    short_never_begins text x (let lt = cut.1.0 in omega (arith, size, lt))
