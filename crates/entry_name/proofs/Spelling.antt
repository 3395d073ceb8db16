-- A text of 40 upper-case digits is the text of the one name that it decodes to.
use Rattle.std.proofs.Common.{◌≡◌, ℕ, suc, ◌+◌, ◌*◌, ◌/◌, ◌%◌, ◌<◌, List, [], ◌∷◌, length, true, ◌&&◌, Ok, refl, sym, ap, ◌∙◌, arith}
use Rattle.std.specs.Prelude.{slice_index}
use Rattle.std.specs.List.{list_all}
use Rattle.std.proofs.lemmas.Bool.{and_parts}
use Rattle.hex.specs.Hex.{upper_digits, encode_upper, encode_with, decode_of, decode_pairs, decode_sized, pair_value, IsBytes}
use Rattle.hex.proofs.HexLemmas.{length-encode_with, decode_of-even, decode_of-ok, decode_of-encode_upper, decode_sized-twice, decode_sized-ok}
use Rattle.entry_name.specs.EntryName.{is_upper_digit, IsTextOf}
use Rattle.entry_name.proofs.Digits.{upper_digits-at, is_upper_digit-digit_of, Digit, digit}

-- what is spelled has digits alone
list_all-encode_upper : (xs : List ℕ) → IsBytes xs → list_all is_upper_digit (encode_upper xs) ≡ true
unfolding encode_with
list_all-encode_upper [] h = refl
list_all-encode_upper (b ∷ rest) h =
    let small : b < 256 = h 0 in
    let high = upper (b / 16) (omega arith) in
    let low = upper (b % 16) (omega arith) in
    let ih = list_all-encode_upper rest (λ k. h (suc k)) in
    λ i. high i && (low i && ih i)
  where
    upper : (v : ℕ) → v < 16 → is_upper_digit (slice_index upper_digits v) ≡ true
    upper v lt = ap is_upper_digit (upper_digits-at v lt) ∙ is_upper_digit-digit_of v lt

-- two digits and the rest decode, and the byte has these digits again
two_digits : (i a b : ℕ) (x : Digit a) (y : Digit b) → pair_value a b i ≡ Ok (x.value * 16 + y.value)
two_digits i a b x y = rw (x.reads, y.reads) refl

-- pairs of upper-case digits decode to bytes of which they are the text
encode_upper-decode_pairs : (i : ℕ) (s : List ℕ) → list_all is_upper_digit s ≡ true → length s % 2 ≡ 0
    → (bytes : List ℕ) × (decode_pairs i s ≡ Ok bytes) × (encode_upper bytes ≡ s)
unfolding decode_pairs encode_with
encode_upper-decode_pairs i [] h even = ([], refl, refl)
encode_upper-decode_pairs i (a ∷ []) h even = absurd (omega (arith, even))
encode_upper-decode_pairs i (a ∷ b ∷ rest) h even =
    let p = and_parts (is_upper_digit a) _ h in
    let q = and_parts (is_upper_digit b) _ p.1 in
    let x = digit a p.0 in
    let y = digit b q.0 in
    let ih = encode_upper-decode_pairs (i + 2) rest q.1 (omega (arith, even)) in
    let sx = x.small in
    let sy = y.small in
    let high : (x.value * 16 + y.value) / 16 ≡ x.value = omega (arith, sx, sy) in
    let low : (x.value * 16 + y.value) % 16 ≡ y.value = omega (arith, sx, sy) in (
      (x.value * 16 + y.value) ∷ ih.0,
      rw (two_digits i a b x y, ih.1) refl,
      λ j. (ap (slice_index upper_digits) high ∙ x.writes) j ∷ (ap (slice_index upper_digits) low ∙ y.writes) j ∷ ih.2 j,
    )

-- 40 upper-case digits decode, and are the text of what they decode to
pub decodes : (s : List ℕ) → list_all is_upper_digit s ≡ true → length s ≡ 40
    → (bytes : List ℕ) × (decode_sized s 20 ≡ Ok bytes) × (s ≡ encode_upper bytes)
decodes s h long =
    let even : length s % 2 ≡ 0 = omega (arith, long) in
    let d = encode_upper-decode_pairs 0 s h even in
    (d.0, decode_sized-twice s 20 long ∙ decode_of-even s even ∙ d.1, sym d.2)

-- what was decoded has this text
pub decoded : (s bytes : List ℕ) → list_all is_upper_digit s ≡ true → decode_sized s 20 ≡ Ok bytes → IsTextOf bytes s
decoded s bytes h e =
    let d = decodes s h (decode_sized-ok s 20 bytes e) in
    let same : d.0 ≡ bytes = cc in
    let ok = decode_of-ok s bytes (sym (decode_sized-twice s 20 (decode_sized-ok s 20 bytes e)) ∙ e) in
    let whole = decode_sized-ok s 20 bytes e in
    let twice = ok.2 in
    record { long = omega (arith, whole, twice); bytes = ok.3; spelled = d.2 ∙ ap encode_upper same }

-- a name's text decodes to that name
pub decodes_back : (name text : List ℕ) → IsTextOf name text → decode_sized text 20 ≡ Ok name
decodes_back name text is =
    let long = is.long in
    let len = length-encode_with upper_digits name in
    let twice : length text ≡ 2 * 20 = ap length is.spelled ∙ omega (arith, len, long) in
    decode_sized-twice text 20 twice ∙ ap decode_of is.spelled ∙ decode_of-encode_upper name is.bytes

-- a name's text has digits alone
pub digits_alone : (name text : List ℕ) → IsTextOf name text → list_all is_upper_digit text ≡ true
digits_alone name text is = ap (list_all is_upper_digit) is.spelled ∙ list_all-encode_upper name is.bytes
