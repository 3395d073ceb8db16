-- A table in which nothing is used.
use Rattle.std.proofs.Common.{◌≡◌, ◌∙◌, inl, inr, ℕ, zero, suc, List, length, get_or, replicate, Option, None, refl, ap}
use Rattle.std.specs.Prelude.{EachIndex, slice_get, slice_index_or, unwrap_or}
use Rattle.std.proofs.lemmas.Bool.{cases_Bool, ltb-false, ltb-true}
use Rattle.std.proofs.Common.{ltb}
use Rattle.std.proofs.lemmas.Option.{slice_get_past, unwrap_or-slice_get}

-- every element of a list of one value
pub same_in : {X : Type 0} (n i : ℕ) (x : X) → get_or (replicate n x) i x ≡ x
same_in zero i x = refl
same_in (suc n) zero x = refl
same_in (suc n) (suc i) x = same_in n i x

-- at any index of a list with none at its own
pub none_at : {X : Type 0} (xs : List (Option X)) (i : ℕ) → EachIndex xs (λ i. slice_index_or xs i None ≡ None) → unwrap_or (slice_get xs i) None ≡ None
none_at xs i each = elim (cases_Bool (ltb i (length xs))) [
  | inl within ↦ unwrap_or-slice_get xs i None ∙ each i (ltb-true i (length xs) within)
  | inr past ↦ ap (λ o. unwrap_or o None) (slice_get_past xs i (ltb-false i (length xs) past))
]
