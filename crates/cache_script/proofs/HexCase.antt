-- Hexadecimal digits in capitals, and that they are text.
use Rattle.std.proofs.Common.{◌≡◌, ◌<◌, ℕ, Bool, true, ◌&&◌, nat_lt, List, [], ◌∷◌, zero, suc, refl, ltb-true, arith}
use Rattle.std.specs.Str.{IsAscii, IsUtf8}
use Rattle.std.proofs.lemmas.Bool.{and_parts}
use Rattle.std.proofs.lemmas.Str.{IsUtf8-append, IsUtf8-from_ascii, IsUtf8-nil}
use Rattle.std.specs.Prelude.{map, slice_index, ◌/◌, ◌%◌}
use Rattle.std.specs.Char.{to_ascii_uppercase}
use Rattle.cache_base.specs.Bytes.{AreBytes}
use Rattle.hex.specs.Hex.{encode_lower, encode_upper, encode_with, lower_digits, upper_digits}

-- of one digit
digit_case : (n : ℕ) → n < 16 → to_ascii_uppercase (slice_index lower_digits n) ≡ slice_index upper_digits n
digit_case zero lt = refl
digit_case (suc zero) lt = refl
digit_case (suc (suc zero)) lt = refl
digit_case (suc (suc (suc zero))) lt = refl
digit_case (suc (suc (suc (suc zero)))) lt = refl
digit_case (suc (suc (suc (suc (suc zero))))) lt = refl
digit_case (suc (suc (suc (suc (suc (suc zero)))))) lt = refl
digit_case (suc (suc (suc (suc (suc (suc (suc zero))))))) lt = refl
digit_case (suc (suc (suc (suc (suc (suc (suc (suc zero)))))))) lt = refl
digit_case (suc (suc (suc (suc (suc (suc (suc (suc (suc zero))))))))) lt = refl
digit_case (suc (suc (suc (suc (suc (suc (suc (suc (suc (suc zero)))))))))) lt = refl
digit_case (suc (suc (suc (suc (suc (suc (suc (suc (suc (suc (suc zero))))))))))) lt = refl
digit_case (suc (suc (suc (suc (suc (suc (suc (suc (suc (suc (suc (suc zero)))))))))))) lt = refl
digit_case (suc (suc (suc (suc (suc (suc (suc (suc (suc (suc (suc (suc (suc zero))))))))))))) lt = refl
digit_case (suc (suc (suc (suc (suc (suc (suc (suc (suc (suc (suc (suc (suc (suc zero)))))))))))))) lt = refl
digit_case (suc (suc (suc (suc (suc (suc (suc (suc (suc (suc (suc (suc (suc (suc (suc zero))))))))))))))) lt = refl
digit_case (suc (suc (suc (suc (suc (suc (suc (suc (suc (suc (suc (suc (suc (suc (suc (suc n)))))))))))))))) lt = absurd (omega (arith, lt))

-- of all digits of bytes
pub capitals : (bytes : List ℕ) → AreBytes bytes → map to_ascii_uppercase (encode_lower bytes) ≡ encode_upper bytes
unfolding encode_with
capitals [] are = refl
capitals (b ∷ rest) are =
    let high : b / 16 < 16 = let small = are.0 in omega (arith, small) in
    let low : b % 16 < 16 = omega arith in
    λ i. digit_case (b / 16) high i ∷ digit_case (b % 16) low i ∷ capitals rest are.1 i

-- a digit is ASCII
abbrev are_ascii : List ℕ → Bool
are_ascii [] = true
are_ascii (x ∷ xs) = nat_lt x 128 && are_ascii xs

one_ascii : (xs : List ℕ) → are_ascii xs ≡ true → (n : ℕ) → slice_index xs n < 128
one_ascii [] e n = omega arith
one_ascii (x ∷ xs) e zero = ltb-true _ _ (and_parts _ _ e).0
one_ascii (x ∷ xs) e (suc n) = one_ascii xs (and_parts _ _ e).1 n

one_is_ascii : (x : ℕ) → x < 128 → IsAscii (x ∷ [])
one_is_ascii x small zero = small
one_is_ascii x small (suc i) = omega arith

-- and what is ASCII begins text
pub ascii_then : (x : ℕ) (xs : List ℕ) → x < 128 → IsUtf8 xs → IsUtf8 (x ∷ xs)
ascii_then x xs small u = IsUtf8-append (x ∷ []) xs (IsUtf8-from_ascii (x ∷ []) (one_is_ascii x small)) u

digit_then : (n : ℕ) (xs : List ℕ) → IsUtf8 xs → IsUtf8 (slice_index upper_digits n ∷ xs)
digit_then n xs u = ascii_then (slice_index upper_digits n) xs (one_ascii upper_digits refl n) u

-- the digits of bytes are text
pub capitals_are_text : (bytes : List ℕ) → IsUtf8 (encode_upper bytes)
unfolding encode_with
capitals_are_text [] = IsUtf8-nil
capitals_are_text (b ∷ rest) = digit_then (b / 16) _ (digit_then (b % 16) _ (capitals_are_text rest))
