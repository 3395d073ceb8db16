-- The order of names, and a name that is looked for among sorted ones.
use Rattle.std.proofs.Common.{◌≡◌, ◌∙◌, ℕ, ◌+◌, ◌<◌, List, length, get_or, Bool, true, false, refl, sym, ap, arith}
use Rattle.std.specs.Prelude.{Result, Ok, Err, is_ok, nat_lt}
use Rattle.std.specs.Cmp.{IsTotalOrder}
use Rattle.std.specs.List.Sorted.{IsBinarySearchResult, IsPartitionPoint, IsSearchInRange, IsSorted}
use Rattle.std.specs.Ordering.{is_eq, is_lt, ordering_reverse}
use Rattle.std.specs.declared.cmp.Ordering.{Ordering}
use Rattle.std.specs.declared.cmp.Ordering.TheVariants.{Less, Greater}
use Rattle.std.proofs.lemmas.Bool.{ltb-false, ltb-true}
use Rattle.std.proofs.lemmas.Cmp.{nat_list_cmp_total, on_total}
use Rattle.std.proofs.lemmas.List.Folds.{list_any_at, list_any_none}
use Rattle.std.proofs.lemmas.List.Sorted.{searchable_from_sorted}
use Rattle.std.proofs.lemmas.Map.Keys.{Less-from_sorted}
use Rattle.cache_base.specs.Names.{AreSorted, has_name, name_cmp}
use Rattle.cache_base.specs.declared.name.Name.{Name}

pub name_cmp_total : IsTotalOrder name_cmp
name_cmp_total = on_total (λ (n : Name). n.0) nat_list_cmp_total

-- names that rise are sorted
pub rising_sorted : (names : List Name) → AreSorted names → IsSorted name_cmp names
rising_sorted names rising k d low within =
    let less = Less-from_sorted name_cmp names k (k + 1) d rising (omega arith) (omega (arith, within)) in
    ap is_lt (name_cmp_total.antisymm (get_or names (k + 1) d) (get_or names k d) ∙ ap ordering_reverse less)

-- names are compared the other way round
compared_back : (a b : Name) (o : Ordering) → name_cmp a b ≡ o → is_eq (name_cmp b a) ≡ is_eq (ordering_reverse o)
compared_back a b o is = ap is_eq (name_cmp_total.antisymm b a ∙ ap ordering_reverse is)

-- a binary search finds a name exactly where it is among the names
pub searched : (names : List Name) (name : Name) → IsSorted name_cmp names → (r : Result ℕ ℕ) → IsSearchInRange r (length names)
    → IsBinarySearchResult (λ n. name_cmp n name) names r → is_ok r ≡ has_name names name
searched names name sorted (Ok i) lt at =
    sym (list_any_at (λ one. is_eq (name_cmp name one)) names i name lt
    (compared_back (get_or names i name) name _ (at name)))
searched names name sorted (Err i) le at = sym (list_any_none (λ one. is_eq (name_cmp name one)) names apart)
  where
    parted : IsPartitionPoint (λ n. name_cmp n name ≡ Less) (λ n. name_cmp n name ≡ Greater) names i
    parted = at (searchable_from_sorted name_cmp_total (λ n. n) names name sorted)

    step : (k : ℕ) (d : Name) → k < length names → (b : Bool) → nat_lt k i ≡ b
        → is_eq (name_cmp name (get_or names k d)) ≡ false
    step k d h true e = compared_back (get_or names k d) name Less (parted.0 k d (omega arith) (ltb-true k i e))
    step k d h false e = compared_back (get_or names k d) name Greater (parted.1 k d (ltb-false k i e) h)

    apart : (k : ℕ) (d : Name) → k < length names → is_eq (name_cmp name (get_or names k d)) ≡ false
    apart k d h = step k d h (nat_lt k i) refl
