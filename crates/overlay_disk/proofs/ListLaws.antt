-- Lists of the files that stand over a disk.
use Rattle.std.proofs.Common.{◌≡◌, ◌∙◌, List, [], ◌∷◌, Bool, true, false, cond, inl, inr, Option, Some, None, IsSome, Contains, IfOk, Result, Ok, Err, ◌↔◌, refl, sym, ap, subst}
use Rattle.std.specs.List.{AllByRecursion, list_any}
use Rattle.std.specs.List.Sorted.{IsStrictlySortedBy}
use Rattle.std.specs.declared.cmp.Ordering.{Ordering}
use Rattle.std.specs.declared.cmp.Ordering.TheVariants.{Less}
use Rattle.std.specs.Map.{keys_of, lookup}
use Rattle.std.specs.BTreeMap.{is_at}
use Rattle.std.specs.Ordering.{is_eq, nat_cmp}
use Rattle.std.proofs.lemmas.Cmp.{nat_cmp_total}
use Rattle.cache_base.specs.Names.{name_cmp}
use Rattle.std.specs.Cmp.{IsTotalOrder, eq_by_cmp_equiv}
use Rattle.std.proofs.lemmas.Bool.{cases_Bool}
use Rattle.std.proofs.lemmas.Map.Lookups.{CmpEqualImpliesEq, exact_bytes, exact_unsigned}
use Rattle.std.proofs.lemmas.Map.Keys.{sorted_head, sorted_tail}
use Rattle.std.proofs.lemmas.Map.Views.{Contains-from_any, list_any-from_Contains, tells_apart}
use Rattle.disk_theory.specs.declared.place.Place.{Place}
use Rattle.disk_theory.specs.contracts.place.PlaceOrd.TheImpl as place_ord
use Rattle.disk_theory.specs.Image.{Files}
use Rattle.disk_theory.proofs.Places.{places_apart}
use Rattle.overlay_disk.specs.Listed.{followed, stands_after}
use Rattle.overlay_disk.specs.Seen.{Overs, over_of, seen, seen_as}
use Rattle.overlay_disk.specs.declared.over.Over.{Over}
use Rattle.overlay_disk.specs.declared.over.Over.TheVariants.{Below, Gone, File}

-- after one slot, where its place is of the kind
abbrev pub step : {X : Type 0} → (X → Bool) → Option X → Over → Bool → Bool
step same None over stands = stands
step same (Some x) over stands = followed over (same x) stands

-- after all slots
abbrev pub after_all : {X : Type 0} → (X → Bool) → (Place → Option X) → Bool → List (Place × Over) → Bool
after_all same pick stands [] = stands
after_all same pick stands (e ∷ es) = after_all same pick (step same (pick e.0) e.1 stands) es

module _ {X : Type 0} (pick : Place → Option X) (place : X → Place) (picks : (x : X) → pick (place x) ≡ Some x) (only : (p : Place) (x : X) → pick p ≡ Some x → p ≡ place x)
    (cmp : X → X → Ordering) (agree : (a b : X) → place_ord.ghosts.cmp (place a) (place b) ≡ cmp a b) (total : IsTotalOrder cmp) (exact : CmpEqualImpliesEq cmp) where
  -- a slot of another place
  other_slot : (q : X) (p : Place) (one : Option X) (over : Over) (stands : Bool) → pick p ≡ one → is_at (place_ord.ghosts.cmp (place q)) p ≡ false
      → step (is_at (cmp q)) one over stands ≡ stands
  other_slot q p None over stands is apart = refl
  other_slot q p (Some x) over stands is apart =
      let differs : is_at (cmp q) x ≡ false =
      ap is_eq (sym (agree q x)) ∙ subst (λ (r : Place). is_at (place_ord.ghosts.cmp (place q)) r ≡ false) (only p x is) apart in
      ap (λ b. followed over b stands) differs

  -- slots past the place
  none_past : (q : X) (stands : Bool) (es : List (Place × Over)) → AllByRecursion (λ y. place_ord.ghosts.cmp (place q) y ≡ Less) (keys_of es)
      → after_all (is_at (cmp q)) pick stands es ≡ stands
  none_past q stands [] past = refl
  none_past q stands (e ∷ es) past =
      ap (λ b. after_all (is_at (cmp q)) pick b es) (other_slot q e.0 (pick e.0) e.1 stands refl (ap is_eq past.0)) ∙ none_past q stands es past.1

  -- all slots together, by the one of the place
  pub by_slot : (q : X) (stands : Bool) (es : List (Place × Over)) → IsStrictlySortedBy place_ord.ghosts.cmp (keys_of es)
      → after_all (is_at (cmp q)) pick stands es ≡ stands_after (over_of (lookup (is_at (place_ord.ghosts.cmp (place q))) es)) stands
  by_slot q stands [] sorted = refl
  by_slot q stands (e ∷ es) sorted =
      elim (cases_Bool (is_at (place_ord.ghosts.cmp (place q)) e.0)) [
        | inl same ↦
            let at : place q ≡ e.0 = tells_apart places_apart (place q) e.0 same in
            let mine : pick e.0 ≡ Some q = subst (λ (p : Place). pick p ≡ Some q) at (picks q) in
            let itself : is_at (cmp q) q ≡ true = (eq_by_cmp_equiv total).refl q in
            let past = subst (λ (p : Place). AllByRecursion (λ y. place_ord.ghosts.cmp p y ≡ Less) (keys_of es)) (sym at) (sorted_head place_ord.ghosts.cmp e.0 (keys_of es) sorted) in
            ap (λ one. after_all (is_at (cmp q)) pick (step (is_at (cmp q)) one e.1 stands) es) mine
            ∙ ap (λ b. after_all (is_at (cmp q)) pick (followed e.1 b stands) es) itself
            ∙ none_past q (stands_after e.1 stands) es past
            ∙ ap (λ b. stands_after (over_of (cond b (Some e.1) (lookup (is_at (place_ord.ghosts.cmp (place q))) es))) stands) (sym same)
        | inr apart ↦
            ap (λ b. after_all (is_at (cmp q)) pick b es) (other_slot q e.0 (pick e.0) e.1 stands refl apart)
            ∙ by_slot q stands es (sorted_tail place_ord.ghosts.cmp e.0 (keys_of es) sorted)
            ∙ ap (λ b. stands_after (over_of (cond b (Some e.1) (lookup (is_at (place_ord.ghosts.cmp (place q))) es))) stands) (sym apart)
      ]

  -- those that are listed are those that stand
  pub lists_seen : (files : Files) (overs : Overs) (below now : List X) → ((q : X) → Contains below q ↔ IsSome (files (place q)))
      → ((q : X) → list_any (is_at (cmp q)) now ≡ stands_after (overs (place q)) (list_any (is_at (cmp q)) below))
      → (q : X) → Contains now q ↔ IsSome (seen files overs (place q))
  lists_seen files overs below now stands is q = (
    λ has. to (overs (place q)) (sym (is q) ∙ list_any-from_Contains (eq_by_cmp_equiv total) q now has),
    λ some. Contains-from_any (tells_apart exact) q now (is q ∙ back (overs (place q)) some),
  )
    where
      to : (over : Over) → stands_after over (list_any (is_at (cmp q)) below) ≡ true → IsSome (seen_as files (place q) over)
      to Below found = (stands q).0 (Contains-from_any (tells_apart exact) q below found)
      to Gone found = cc
      to (File file) found = refl

      back : (over : Over) → IsSome (seen_as files (place q) over) → stands_after over (list_any (is_at (cmp q)) below) ≡ true
      back Below some = list_any-from_Contains (eq_by_cmp_equiv total) q below ((stands q).1 some)
      back Gone some = cc
      back (File file) some = refl

pub if_ok_then : {T E : Type 0} {P Q : T → Type 0} (r : Result T E) → IfOk r P → ((x : T) → P x → Q x) → IfOk r Q
if_ok_then (Ok x) p f = f x p
if_ok_then (Err error) p f = tt

-- the list is whole once nothing is left
pub all_followed : {X : Type 0} (same : X → Bool) (pick : Place → Option X) (now below by : Bool) (rest all : List (Place × Over)) → rest ≡ []
    → after_all same pick now rest ≡ after_all same pick below all → after_all same pick below all ≡ by → now ≡ by
all_followed same pick now below by rest all none is slot = ap (after_all same pick now) (sym none) ∙ is ∙ slot

pub names_exact : CmpEqualImpliesEq name_cmp
names_exact a b e = ap (λ bytes. record { 0 = bytes }) (exact_bytes a.0 b.0 e)

pub numbers_exact : CmpEqualImpliesEq nat_cmp
numbers_exact a b e = exact_unsigned a b e

pub numbers_total : IsTotalOrder nat_cmp
numbers_total = nat_cmp_total
