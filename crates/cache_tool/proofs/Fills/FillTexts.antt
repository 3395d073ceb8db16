-- The bytes of the bodies.
use Rattle.std.proofs.Common.{◌≡◌, ◌∙◌, ℕ, ◌+◌, ◌%◌, ◌≤◌, List, drop, get_or, length, take, arith, ap}
use Rattle.std.specs.List.{range_with_len}
use Rattle.std.specs.Prelude.{map}
use Rattle.std.proofs.lemmas.List.{get_or-drop, get_or-take, length-drop, length-take}
use Rattle.std.proofs.lemmas.List.FromFn.{fill_by_all, get_or-map-range_with_len, length-map-range_with_len}

-- a part of the bytes 0 to 255 again and again, from the remainder of a number on
pub part_of : (long i n : ℕ) (bytes : List ℕ) → bytes ≡ map (λ j. j % 256) (range_with_len 0 long) → i % 256 + n ≤ long
    → take n (drop (i % 256) bytes) ≡ map (λ j. (i + j) % 256) (range_with_len 0 n)
part_of long i n bytes is fits =
    let all : length bytes ≡ long = ap length is ∙ length-map-range_with_len (λ j. j % 256) 0 long in
    let left = length-drop (i % 256) bytes in
    let taken = length-take n (drop (i % 256) bytes) in
    fill_by_all (λ j. (i + j) % 256) (take n (drop (i % 256) bytes)) n 0 (omega (arith, all, left, taken, fits))
    (λ k lt. get_or-take n (drop (i % 256) bytes) k 0 lt ∙ get_or-drop (i % 256) bytes k 0 ∙ ap (λ l. get_or l (i % 256 + k) 0) is
    ∙ get_or-map-range_with_len (λ j. j % 256) 0 long (i % 256 + k) (i % 256 + k) 0 (omega (arith, fits, lt)) (omega arith) ∙ omega arith)
