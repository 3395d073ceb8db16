-- Names that are the same, and names that rise.
use Rattle.std.proofs.Common.{◌≡◌, List, [], ◌∷◌, Bool, true, false, refl, sym, ap, subst, ◌∙◌}
use Rattle.std.specs.List.{AllByRecursion, IsDistinct, list_any}
use Rattle.std.specs.List.Sorted.{IsStrictlySortedBy}
use Rattle.std.specs.Cmp.Lexicographic.{nat_list_cmp_total}
use Rattle.std.specs.Cmp.{tied_itself}
use Rattle.std.specs.FinMap.{slice_cmp-IsAntisymmetric, nat_cmp-IsAntisymmetric}
use Rattle.std.specs.Ordering.{is_eq, ordering_reverse}
use Rattle.std.specs.declared.cmp.Ordering.TheVariants.{Less, Equal, Greater}
use Rattle.std.proofs.lemmas.Map.Text.{is_eq-slice_cmp}
use Rattle.std.proofs.lemmas.Slice.Eq.{bytes_eq-Decides}
use Rattle.cache_base.specs.Names.{AreSorted, has_name, name_cmp}
use Rattle.cache_base.specs.declared.name.Name.{Name}
use Rattle.record_list.specs.Lists.{same_name}

pub same_is : (a b : Name) → same_name a b ≡ true → a ≡ b
same_is a b h = λ i. record { 0 = (bytes_eq-Decides a.0 b.0).0 h i }

pub same_itself : (a : Name) → same_name a a ≡ true
same_itself a = (bytes_eq-Decides a.0 a.0).1 refl

-- names that tie are the same
pub tied_same : (a b : Name) → name_cmp a b ≡ Equal → a ≡ b
tied_same a b e = λ i. record { 0 = slice_cmp-IsAntisymmetric nat_cmp-IsAntisymmetric a.0 b.0 e i }

pub above_below : (a b : Name) → name_cmp a b ≡ Greater → name_cmp b a ≡ Less
above_below a b e = nat_list_cmp_total.antisymm b.0 a.0 ∙ ap ordering_reverse e

pub below_trans : (a b c : Name) → name_cmp a b ≡ Less → name_cmp b c ≡ Less → name_cmp a c ≡ Less
below_trans a b c = nat_list_cmp_total.trans a.0 b.0 c.0

-- a name below another is not it
pub below_apart : (a b : Name) → name_cmp a b ≡ Less → same_name a b ≡ false
below_apart a b less = go (same_name a b) refl
  where
    go : (t : Bool) → same_name a b ≡ t → t ≡ false
    go false e = refl
    go true e =
        let same : a.0 ≡ b.0 = (bytes_eq-Decides a.0 b.0).0 e in
        let tied : name_cmp b b ≡ Less = subst (λ (z : List _). name_cmp (record { 0 = z }) b ≡ Less) same less in
        let own : name_cmp b b ≡ Equal = tied_itself nat_list_cmp_total b.0 in
        absurd (cc)

pub same_back : (a b : Name) → same_name a b ≡ same_name b a
same_back a b = go (same_name a b) (same_name b a) refl refl
  where
    go : (s t : Bool) → same_name a b ≡ s → same_name b a ≡ t → s ≡ t
    go true true e f = refl
    go false false e f = refl
    go true false e f = let both : same_name b a ≡ true = (bytes_eq-Decides b.0 a.0).1 (sym ((bytes_eq-Decides a.0 b.0).0 e)) in absurd (cc)
    go false true e f = let both : same_name a b ≡ true = (bytes_eq-Decides a.0 b.0).1 (sym ((bytes_eq-Decides b.0 a.0).0 f)) in absurd (cc)

-- names that are compared as equal have the same bytes
pub equal_same : (a b : Name) → is_eq (name_cmp a b) ≡ same_name a b
equal_same a b = is_eq-slice_cmp a.0 b.0

-- so a name is looked for alike by its order and by its bytes
pub found_same : (name : Name) (names : List Name) → has_name names name ≡ list_any (same_name name) names
found_same name names = λ i. list_any (λ one. equal_same name one i) names

pub below_apart_back : (a b : Name) → name_cmp a b ≡ Less → same_name b a ≡ false
below_apart_back a b less = sym (same_back a b) ∙ below_apart a b less

all_apart : (a : Name) (names : List Name) → AllByRecursion (λ y. name_cmp a y ≡ Less) names → AllByRecursion (λ y. same_name a y ≡ false) names
all_apart a [] h = tt
all_apart a (n ∷ names) h = (below_apart a n h.0, all_apart a names h.1)

-- among names that rise none stands twice
pub rising_distinct : (names : List Name) → AreSorted names → IsDistinct same_name names
unfolding IsStrictlySortedBy IsDistinct
rising_distinct [] h = tt
rising_distinct (a ∷ names) h = (all_apart a names h.0, rising_distinct names h.1)
