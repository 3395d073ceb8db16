-- The place of a name among things in name order, each of which has one.
use Rattle.std.proofs.Common.{◌≡◌, ℕ, ◌<◌, ◌≤◌, Bool, true, false, List, [], length, get_or, nat_lt, refl, sym, ap, ◌∙◌, subst, arith}
use Rattle.std.specs.List.{AllByRecursion}
use Rattle.std.specs.List.Sorted.{IsNonDecreasingBy, IsPartitionPoint}
use Rattle.std.specs.Ordering.{ordering_index}
use Rattle.std.specs.Prelude.{map}
use Rattle.std.specs.declared.cmp.Ordering.{Ordering}
use Rattle.std.specs.declared.cmp.Ordering.TheVariants.{Less, Equal, Greater}
use Rattle.std.proofs.lemmas.Bool.{ltb-false, ltb-true}
use Rattle.std.proofs.lemmas.List.{get_or-map, length-map}
use Rattle.std.proofs.lemmas.List.Elements.{recursion_from_All}
use Rattle.std.proofs.lemmas.Map.Keys.{Less-from_sorted}
use Rattle.cache_base.specs.Names.{AreSorted, name_cmp}
use Rattle.cache_base.specs.declared.name.Name.{Name}
use Rattle.record_list.specs.Lists.{same_name}
use Rattle.record_list.proofs.NameLaws.{above_below, below_apart, below_apart_back, below_trans, tied_same}

abbrev pub no_name : Name
no_name = record { 0 = [] }

not_above : (a b q : Name) → name_cmp a b ≡ Less → (o : Ordering) → name_cmp b q ≡ o → ordering_index (name_cmp a q) ≤ ordering_index o
not_above a b q less Less e = let l : name_cmp a q ≡ Less = below_trans a b q less e in subst (λ o. ordering_index o ≤ 0) (sym l) (omega arith)
not_above a b q less Equal e = let l : name_cmp a q ≡ Less = ap (λ n. name_cmp a n) (sym (tied_same b q e)) ∙ less in subst (λ o. ordering_index o ≤ 1) (sym l) (omega arith)
not_above a b q less Greater e = go (name_cmp a q)
  where
    go : (o : Ordering) → ordering_index o ≤ 2
    go Less = omega arith
    go Equal = omega arith
    go Greater = omega arith

name_at : {X : Type 0} (key : X → Name) (xs : List X) (k : ℕ) (d : X) (e : Name) → k < length xs → get_or (map key xs) k e ≡ key (get_or xs k d)
name_at key xs k d e low = get_or-map key xs k d e low

below_at : {X : Type 0} (key : X → Name) (xs : List X) (i j : ℕ) (d : X) → AreSorted (map key xs) → i < j → j < length xs → name_cmp (key (get_or xs i d)) (key (get_or xs j d)) ≡ Less
below_at key xs i j d rising less low =
    let long : length (map key xs) ≡ length xs = length-map xs key in
    (λ k. name_cmp (sym (name_at key xs i d no_name (omega arith)) k) (sym (name_at key xs j d no_name low) k))
    ∙ Less-from_sorted name_cmp (map key xs) i j no_name rising less (omega (arith, long))

pub answers_rise : {X : Type 0} (key : X → Name) (xs : List X) (q : Name) → AreSorted (map key xs) → IsNonDecreasingBy (λ (x : X). ordering_index (name_cmp (key x) q)) xs
answers_rise key xs q rising i j d up low = go (nat_lt i j) refl
  where
    go : (b : Bool) → nat_lt i j ≡ b → ordering_index (name_cmp (key (get_or xs i d)) q) ≤ ordering_index (name_cmp (key (get_or xs j d)) q)
    go true h = not_above (key (get_or xs i d)) (key (get_or xs j d)) q (below_at key xs i j d rising (ltb-true i j h) low) (name_cmp (key (get_or xs j d)) q) refl
    go false h =
        let same : i ≡ j = omega (arith, ltb-false i j h) in
        subst (λ k. ordering_index (name_cmp (key (get_or xs i d)) q) ≤ ordering_index (name_cmp (key (get_or xs k d)) q)) same (omega arith)

pub none_there : {X : Type 0} (key : X → Name) (d : X) (xs : List X) (q : Name) (p : ℕ)
    → IsPartitionPoint (λ (x : X). name_cmp (key x) q ≡ Less) (λ (x : X). name_cmp (key x) q ≡ Greater) xs p
    → AllByRecursion (λ n. same_name q n ≡ false) (map key xs)
none_there key d xs q p parts = recursion_from_All (λ n. same_name q n ≡ false) (map key xs) at
  where
    long : length (map key xs) ≡ length xs
    long = length-map xs key

    at_one : (k : ℕ) → k < length xs → same_name q (key (get_or xs k d)) ≡ false
    at_one k low = go (nat_lt k p) refl
      where
        go : (b : Bool) → nat_lt k p ≡ b → same_name q (key (get_or xs k d)) ≡ false
        go true h = below_apart_back (key (get_or xs k d)) q (parts.0 k d (omega arith) (ltb-true k p h))
        go false h = below_apart q (key (get_or xs k d)) (above_below (key (get_or xs k d)) q (parts.1 k d (omega (arith, ltb-false k p h)) low))

    at : (k : ℕ) (e : Name) → k < length (map key xs) → same_name q (get_or (map key xs) k e) ≡ false
    at k e low = ap (same_name q) (name_at key xs k d e (omega (arith, long))) ∙ at_one k (omega (arith, long))
