-- `is_same` and the order of places decide whether two places are one.
use Rattle.std.proofs.Common.{◌≡◌, ◌≢◌, Bool, true, false, refl, sym, ap, subst}
use Rattle.std.specs.Ordering.{eq_by_cmp}
use Rattle.std.specs.Cmp.{IsTotalOrder, eq_by_cmp_equiv}
use Rattle.std.specs.Cmp.Lexicographic.{bytes_decides}
use Rattle.std.proofs.lemmas.Bool.Decides.{Decides-eqb}
use Rattle.std.proofs.lemmas.Map.Lookups.{CmpEqualImpliesEq, exact_bytes, exact_unsigned}
use Rattle.std.proofs.lemmas.Map.Views.{tells_apart}
use Rattle.disk_theory.specs.declared.place.Place.{Place}
use Rattle.disk_theory.specs.declared.place.Place.TheVariants.{Entry, Doomed, Index, Log, Tmp, Clear}
use Rattle.disk_theory.specs.contracts.place.PlaceOrd.TheImpl as place_ord
use Rattle.disk_theory.specs.contracts.place.PlaceOrd.TheImpl.Laws.{total-law}
use Rattle.disk_theory.specs.Place.{is_same}

pub is_same-refl : (p : Place) → is_same p p ≡ true
is_same-refl (Entry a) = (bytes_decides a.0 a.0).1 refl
is_same-refl (Doomed a) = (Decides-eqb a a).1 refl
is_same-refl Index = refl
is_same-refl Log = refl
is_same-refl Tmp = refl
is_same-refl Clear = refl

pub one_same : (p q : Place) → is_same p q ≡ true → p ≡ q
one_same (Entry a) (Entry b) e = ap (λ l. Entry (record { 0 = l })) ((bytes_decides a.0 b.0).0 e)
one_same (Doomed a) (Doomed b) e = ap Doomed ((Decides-eqb a b).0 e)
one_same Index Index e = refl
one_same Log Log e = refl
one_same Tmp Tmp e = refl
one_same Clear Clear e = refl
one_same p q e = cc

pub is_same-apart : (p q : Place) → p ≢ q → is_same p q ≡ false
is_same-apart p q apart = go (is_same p q) refl
  where
    go : (same : Bool) → is_same p q ≡ same → same ≡ false
    go true is = absurd (apart (one_same p q is))
    go false is = refl

pub never : (p q : Place) → q ≡ p → is_same q p ≡ false → ⊥
never p q e apart = let same : is_same q p ≡ true = subst (λ (r : Place). is_same r p ≡ true) (sym e) (is_same-refl p) in cc

pub places_total : IsTotalOrder place_ord.ghosts.cmp
places_total = total-law

pub places_apart : CmpEqualImpliesEq place_ord.ghosts.cmp
places_apart (Entry a) (Entry b) e = ap (λ bytes. Entry (record { 0 = bytes })) (exact_bytes a.0 b.0 e)
places_apart (Doomed a) (Doomed b) e = ap Doomed (exact_unsigned a b e)
places_apart Index Index e = refl
places_apart Log Log e = refl
places_apart Tmp Tmp e = refl
places_apart Clear Clear e = refl
places_apart p q e = cc

-- the order's equality is the test
pub same_test : (p q : Place) → eq_by_cmp place_ord.ghosts.cmp p q ≡ is_same q p
same_test p q = go (is_same q p) refl
  where
    go : (same : Bool) → is_same q p ≡ same → eq_by_cmp place_ord.ghosts.cmp p q ≡ same
    go true is = subst (λ (r : Place). eq_by_cmp place_ord.ghosts.cmp p r ≡ true) (sym (one_same q p is)) ((eq_by_cmp_equiv places_total).refl p)
    go false is = other (eq_by_cmp place_ord.ghosts.cmp p q) refl
      where
        other : (tie : Bool) → eq_by_cmp place_ord.ghosts.cmp p q ≡ tie → tie ≡ false
        other false tied = refl
        other true tied = let same : is_same q p ≡ true = subst (λ (r : Place). is_same r p ≡ true) (tells_apart places_apart p q tied) (is_same-refl p) in cc
