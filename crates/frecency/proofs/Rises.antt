-- The table of points rises: a test that is computed once for the whole table, and what it says at each place.
use Rattle.std.proofs.Common.{◌≡◌, ℕ, zero, suc, ◌<◌, ◌≤◌, List, [], ◌∷◌, get_or, length, arith, Bool, true, ◌&&◌, refl, add-one}
use Rattle.std.specs.Prelude.{nat_le}
use Rattle.std.proofs.lemmas.Bool.{and_parts, leb-true}
use Rattle.frecency.specs.Frecency.{points}
use Rattle.frecency.specs.Laws.{TableRises}

-- whether each number is at most the next
rises : List ℕ → Bool
rises [] = true
rises (x ∷ []) = true
rises (x ∷ y ∷ ys) = nat_le x y && rises (y ∷ ys)

rising : (xs : List ℕ) → rises xs ≡ true → (i : ℕ) → suc i < length xs → get_or xs i 0 ≤ get_or xs (suc i) 0
unfolding rises
rising [] h i l = absurd (omega (arith, l))
rising (x ∷ []) h i l = absurd (omega (arith, l))
rising (x ∷ y ∷ ys) h zero l = leb-true x y (and_parts _ _ h).0
rising (x ∷ y ∷ ys) h (suc i) l = rising (y ∷ ys) (and_parts (nat_le x y) (rises (y ∷ ys)) h).1 i (omega (arith, l))

pub table_rises : TableRises
unfolding rises
table_rises i below =
    let places : length points ≡ 17 = refl in
    rw (add-one i) (rising points refl i (omega (arith, below, places)))
