-- Which number is the least free one.
use Rattle.std.proofs.Common.{◌≡◌, ◌<◌, ◌≤◌, ℕ, List, length, get_or, eqb, true, Contains, inl, inr, subst, below_more, ◌+◌, arith}
use Rattle.std.proofs.lemmas.Cmp.{nat_eq_equiv}
use Rattle.std.proofs.lemmas.Bool.{cases_lt}
use Rattle.std.proofs.lemmas.Bool.Decides.{Decides-eqb}
use Rattle.std.proofs.lemmas.Map.Steps.{le-length_from_below}
use Rattle.std.proofs.lemmas.Map.Views.{list_any-from_Contains}
use Rattle.doom_area.specs.DoomArea.{IsLeastFree}

-- a list that has each number below n is at least n long
pub long_enough : (xs : List ℕ) (n : ℕ) → ((k : ℕ) → k < n → Contains xs k) → n ≤ length xs
long_enough xs n has = le-length_from_below xs n (λ q lt. list_any-from_Contains nat_eq_equiv q xs (has q lt))

not_below : (xs : List ℕ) (a b : ℕ) → IsLeastFree xs a → IsLeastFree xs b → a < b → ⊥
not_below xs a b one other lt = one.free (other.lesser a lt)

-- there is only one
one_least : (xs : List ℕ) (a b : ℕ) → IsLeastFree xs a → IsLeastFree xs b → a ≡ b
one_least xs a b one other =
    elim (cases_lt a b) [
      | inl lt ↦ absurd (not_below xs a b one other lt)
      | inr ge ↦ elim (cases_lt b a) [
        | inl lt ↦ absurd (not_below xs b a other one lt)
        | inr le ↦ omega arith
      ]
    ]

-- what holds of one least free number holds of any
pub for_least : (P : ℕ → Type 0) (xs : List ℕ) (a b : ℕ) → IsLeastFree xs a → IsLeastFree xs b → P a → P b
for_least P xs a b one other holds = subst P (one_least xs a b one other) holds

-- one number more is in the list
pub lesser_more : (xs : List ℕ) (n : ℕ) → ((k : ℕ) → k < n → Contains xs k) → Contains xs n → (k : ℕ) → k < n + 1 → Contains xs k
lesser_more xs n lesser here = below_more (Contains xs) n lesser here

-- what a search finds is in the list
pub found : (xs : List ℕ) (n : ℕ) → ((k : ℕ) × (k < length xs) × ((d : ℕ) → eqb (get_or xs k d) n ≡ true)) → Contains xs n
found xs n (k, lt, same) = (k, lt, (Decides-eqb (get_or xs k n) n).0 (same n))
