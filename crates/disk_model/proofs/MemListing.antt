-- What stands at the places of one kind, in the order of a map.
use Rattle.std.proofs.Common.{◌≡◌, ◌⊎◌, inl, inr, ℕ, List, [], ◌∷◌, ◌++◌, Bool, true, cond, Option, Some, None, IsSome, Contains, refl, sym, ◌∙◌, ap, subst, arith}
use Rattle.std.specs.List.{AllByRecursion}
use Rattle.std.specs.List.Sorted.{IsStrictlySortedBy}
use Rattle.std.specs.declared.cmp.Ordering.{Ordering}
use Rattle.std.specs.declared.cmp.Ordering.TheVariants.{Less}
use Rattle.std.specs.Map.{keys_of, lookup}
use Rattle.std.specs.BTreeMap.{is_at}
use Rattle.std.specs.Ordering.{is_eq}
use Rattle.std.specs.Cmp.{eq_by_cmp_equiv}
use Rattle.std.proofs.lemmas.List.{append-nil}
use Rattle.std.proofs.lemmas.Bool.{cases_Bool}
use Rattle.std.proofs.lemmas.Map.Keys.{sorted_head, sorted_tail}
use Rattle.std.proofs.lemmas.Map.Views.{tells_apart}
use Rattle.std.proofs.lemmas.List.Elements.{Contains-append_left, Contains-append_right, Contains-append_cases, Contains-push}
use Rattle.disk_theory.specs.declared.place.Place.{Place}
use Rattle.disk_theory.specs.contracts.place.PlaceOrd.TheImpl as place_ord
use Rattle.disk_model.specs.MemSlots.{now_of}
use Rattle.disk_model.specs.declared.mem_slots.Slot.{Slot}
use Rattle.disk_theory.proofs.Places.{places_total, places_apart}
use Rattle.disk_model.proofs.MemSlots.{none_stands}

-- one more, where it is of the kind and a file stands
abbrev pub add : {X : Type 0} → Option X → Option ℕ → List X → List X
add None file xs = xs
add (Some x) None xs = xs
add (Some x) (Some file) xs = x ∷ xs

-- those of the kind at which a file stands
abbrev pub picked : {X : Type 0} → (Place → Option X) → List (Place × Slot) → List X
picked pick [] = []
picked pick (e ∷ es) = add (pick e.0) e.1.now (picked pick es)

module _ {X : Type 0} (pick : Place → Option X) (place : X → Place) (picks : (x : X) → pick (place x) ≡ Some x) (only : (p : Place) (x : X) → pick p ≡ Some x → p ≡ place x) where
  module _ (R : X → X → Ordering) (rises : (a b : X) → place_ord.ghosts.cmp (place a) (place b) ≡ Less → R a b ≡ Less) where
    more_below : (x : X) (p : Place) (one : Option X) (now : Option ℕ) (xs : List X) → pick p ≡ one → place_ord.ghosts.cmp (place x) p ≡ Less
        → AllByRecursion (λ y. R x y ≡ Less) xs → AllByRecursion (λ y. R x y ≡ Less) (add one now xs)
    more_below x p None now xs is lt rest = rest
    more_below x p (Some y) None xs is lt rest = rest
    more_below x p (Some y) (Some f) xs is lt rest = (rises x y (subst (λ (q : Place). place_ord.ghosts.cmp (place x) q ≡ Less) (only p y is) lt), rest)

    all_below : (x : X) (es : List (Place × Slot)) → AllByRecursion (λ y. place_ord.ghosts.cmp (place x) y ≡ Less) (keys_of es) → AllByRecursion (λ y. R x y ≡ Less) (picked pick es)
    all_below x [] below = tt
    all_below x (e ∷ es) below = more_below x e.0 (pick e.0) e.1.now (picked pick es) refl below.0 (all_below x es below.1)

    more_rising : (p : Place) (one : Option X) (now : Option ℕ) (es : List (Place × Slot)) → pick p ≡ one → AllByRecursion (λ y. place_ord.ghosts.cmp p y ≡ Less) (keys_of es)
        → IsStrictlySortedBy R (picked pick es) → IsStrictlySortedBy R (add one now (picked pick es))
    unfolding IsStrictlySortedBy
    more_rising p None now es is below rest = rest
    more_rising p (Some x) None es is below rest = rest
    more_rising p (Some x) (Some f) es is below rest =
        (all_below x es (subst (λ (q : Place). AllByRecursion (λ y. place_ord.ghosts.cmp q y ≡ Less) (keys_of es)) (only p x is) below), rest)

    pub picked_rises : (es : List (Place × Slot)) → IsStrictlySortedBy place_ord.ghosts.cmp (keys_of es) → IsStrictlySortedBy R (picked pick es)
    unfolding IsStrictlySortedBy
    picked_rises [] sorted = tt
    picked_rises (e ∷ es) sorted = more_rising e.0 (pick e.0) e.1.now es refl sorted.0 (picked_rises es sorted.1)

  none_below : (x : X) (es : List (Place × Slot)) → AllByRecursion (λ y. place_ord.ghosts.cmp (place x) y ≡ Less) (keys_of es) → lookup (is_at (place_ord.ghosts.cmp (place x))) es ≡ None
  none_below x [] below = refl
  none_below x (e ∷ es) below =
      ap (λ o. cond (is_eq o) (Some e.1) (lookup (is_at (place_ord.ghosts.cmp (place x))) es)) below.0 ∙ none_below x es below.1

  kept : (x : X) (one : Option X) (now : Option ℕ) (xs : List X) → Contains xs x → Contains (add one now xs) x
  kept x None now xs has = has
  kept x (Some y) None xs has = has
  kept x (Some y) (Some f) xs has = Contains-append_right (y ∷ []) xs x has

  here : (x : X) (now : Option ℕ) (xs : List X) → IsSome now → Contains (add (Some x) now xs) x
  here x None xs some = cc
  here x (Some f) xs some = Contains-append_left (x ∷ []) xs x (Contains-push [] x)

  split : (x : X) (one : Option X) (now : Option ℕ) (xs : List X) → Contains (add one now xs) x → ((one ≡ Some x) × IsSome now) ⊎ Contains xs x
  split x None now xs has = inr has
  split x (Some y) None xs has = inr has
  split x (Some y) (Some f) xs has =
      elim (Contains-append_cases (y ∷ []) xs x has) [
        | inl first ↦ inl (first_is first, refl)
        | inr later ↦ inr later
      ]
    where
      first_is : Contains (y ∷ []) x → Some y ≡ Some x
      first_is first = ap Some (let only_one : y ≡ x = grind (arith) in only_one)

  pub stands_from : (x : X) (es : List (Place × Slot)) → IsSome (now_of (lookup (is_at (place_ord.ghosts.cmp (place x))) es)) → Contains (picked pick es) x
  stands_from x [] some = cc
  stands_from x (e ∷ es) some =
      elim (cases_Bool (is_at (place_ord.ghosts.cmp (place x)) e.0)) [
        | inl same ↦
            let at : place x ≡ e.0 = tells_apart places_apart (place x) e.0 same in
            let now : IsSome e.1.now = subst (λ (b : Bool). IsSome (now_of (cond b (Some e.1) (lookup (is_at (place_ord.ghosts.cmp (place x))) es)))) same some in
            subst (λ (one : Option X). Contains (add one e.1.now (picked pick es)) x) (sym (picks x) ∙ ap pick at) (here x e.1.now (picked pick es) now)
        | inr other ↦ kept x (pick e.0) e.1.now (picked pick es) (stands_from x es (subst (λ (b : Bool). IsSome (now_of (cond b (Some e.1) (lookup (is_at (place_ord.ghosts.cmp (place x))) es)))) other some))
      ]

  pub stands_to : (x : X) (es : List (Place × Slot)) → IsStrictlySortedBy place_ord.ghosts.cmp (keys_of es) → Contains (picked pick es) x → IsSome (now_of (lookup (is_at (place_ord.ghosts.cmp (place x))) es))
  stands_to x [] sorted has = absurd (omega (arith, has.1))
  stands_to x (e ∷ es) sorted has =
      elim (split x (pick e.0) e.1.now (picked pick es) has) [
        | inl this ↦
            let at : place x ≡ e.0 = sym (only e.0 x this.0) in
            let same : is_at (place_ord.ghosts.cmp (place x)) e.0 ≡ true = subst (λ (q : Place). is_at (place_ord.ghosts.cmp (place x)) q ≡ true) at ((eq_by_cmp_equiv places_total).refl (place x)) in
            subst (λ (b : Bool). IsSome (now_of (cond b (Some e.1) (lookup (is_at (place_ord.ghosts.cmp (place x))) es)))) (sym same) this.1
        | inr later ↦
            let rest = stands_to x es (sorted_tail place_ord.ghosts.cmp e.0 (keys_of es) sorted) later in
            elim (cases_Bool (is_at (place_ord.ghosts.cmp (place x)) e.0)) [
              | inl same ↦
                  let at : e.0 ≡ place x = sym (tells_apart places_apart (place x) e.0 same) in
                  let below = subst (λ (q : Place). AllByRecursion (λ y. place_ord.ghosts.cmp q y ≡ Less) (keys_of es)) at (sorted_head place_ord.ghosts.cmp e.0 (keys_of es) sorted) in
                  absurd (none_stands _ (ap now_of (none_below x es below)) rest)
              | inr other ↦ subst (λ (b : Bool). IsSome (now_of (cond b (Some e.1) (lookup (is_at (place_ord.ghosts.cmp (place x))) es)))) (sym other) rest
            ]
      ]

-- the list is whole once nothing is left
pub all_picked : {X : Type 0} (pick : Place → Option X) (xs : List X) (rest all : List (Place × Slot)) → rest ≡ [] → xs ++ picked pick rest ≡ picked pick all → xs ≡ picked pick all
all_picked pick xs rest all none is = sym (append-nil xs) ∙ ap (λ es. xs ++ picked pick es) (sym none) ∙ is
