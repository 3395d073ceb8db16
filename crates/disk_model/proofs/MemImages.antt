-- Contents in a list, as an image.
use Rattle.std.proofs.Common.{◌≡◌, inl, inr, ⊎_elim, ℕ, zero, suc, ◌+◌, ◌<◌, ◌≤◌, List, [], ◌∷◌, ◌++◌, length, take, drop, get_or, Some, None, Bool, refl, sym, ◌∙◌, ap, subst, arith, if◌then◌else◌}
use Rattle.std.proofs.Math.Seq.{drop-cons}
use Rattle.std.proofs.lemmas.List.{take-append-drop, length_push}
use Rattle.std.proofs.lemmas.Bool.{cases_Bool, cases_lt}
use Rattle.std.proofs.lemmas.Grind.{common_steps}
use Rattle.disk_theory.specs.declared.place.Place.{Place}
use Rattle.disk_theory.specs.Place.{is_same}
use Rattle.disk_model.specs.MemImage.{Given, image_of, ArePlacesApart}
use Rattle.disk_theory.proofs.Places.{is_same-refl, is_same-apart, one_same}

-- the one content is first, and the other places have theirs after it
pub image_here : (place : Place) (content : List ℕ) (rest : Given) → image_of ((place, content) ∷ rest) place ≡ Some content
image_here place content rest = ap (λ (b : Bool). if b then Some content else image_of rest place) (is_same-refl place)

pub image_apart : (place q : Place) (content : List ℕ) (rest : Given) → (q ≡ place → ⊥) → image_of ((place, content) ∷ rest) q ≡ image_of rest q
image_apart place q content rest apart = ap (λ (b : Bool). if b then Some content else image_of rest q) (is_same-apart q place apart)

pub image_late : (xs ys : Given) (place : Place) → image_of xs place ≡ None → image_of (xs ++ ys) place ≡ image_of ys place
image_late [] ys place none = refl
image_late (x ∷ xs) ys place none =
    elim (cases_Bool (is_same place x.0)) [
      | inl same ↦ cc_none (sym (ap (λ (b : Bool). if b then Some x.1 else image_of xs place) same) ∙ none)
      | inr other ↦
          ap (λ (b : Bool). if b then Some x.1 else image_of (xs ++ ys) place) other
          ∙ image_late xs ys place (sym (ap (λ (b : Bool). if b then Some x.1 else image_of xs place) other) ∙ none)
    ]
  where
    cc_none : Some x.1 ≡ None → image_of ((x ∷ xs) ++ ys) place ≡ image_of ys place
    cc_none e = cc

-- one more changes nothing elsewhere
pub image_beside : (xs : Given) (place q : Place) (content : List ℕ) → (q ≡ place → ⊥) → image_of (xs ++ (place, content) ∷ []) q ≡ image_of xs q
image_beside [] place q content apart = image_apart place q content [] apart
image_beside (x ∷ xs) place q content apart = ap (λ o. if is_same q x.0 then Some x.1 else o) (image_beside xs place q content apart)

-- a place with no content is none of theirs
pub none_of_them : (xs : Given) (place : Place) → image_of xs place ≡ None → (j : ℕ) (d : Place × List ℕ) → j < length xs → (get_or xs j d).0 ≡ place → ⊥
none_of_them [] place none j d lt at = omega arith
none_of_them (x ∷ xs) place none zero d lt at =
    let here : image_of (x ∷ xs) place ≡ Some x.1 = subst (λ (q : Place). image_of (x ∷ xs) q ≡ Some x.1) at (image_here x.0 x.1 xs) in cc
none_of_them (x ∷ xs) place none (suc j) d lt at =
    elim (cases_Bool (is_same place x.0)) [
      | inl same ↦ let here : image_of (x ∷ xs) place ≡ Some x.1 = ap (λ (b : Bool). if b then Some x.1 else image_of xs place) same in cc
      | inr other ↦ none_of_them xs place (sym (ap (λ (b : Bool). if b then Some x.1 else image_of xs place) other) ∙ none) j d (omega (arith, lt)) at
    ]

-- one more
pub apart_pushed : (xs : Given) (place : Place) (content : List ℕ) → image_of xs place ≡ None → ArePlacesApart xs → ArePlacesApart (xs ++ (place, content) ∷ [])
apart_pushed xs place content none apart j k d lt within same = ⊎_elim earlier last (cases_lt k (length xs))
  where
    front : (i : ℕ) → i < length xs → get_or (xs ++ (place, content) ∷ []) i d ≡ get_or xs i d
    front i below = grind (arith, common_steps)

    end_at : (i : ℕ) → i ≡ length xs → get_or (xs ++ (place, content) ∷ []) i d ≡ (place, content)
    end_at i is = grind (arith, common_steps)

    count : length (xs ++ (place, content) ∷ []) ≡ length xs + 1
    count = length_push xs (place, content)

    earlier : k < length xs → ⊥
    earlier below = apart j k d lt below (ap (λ (e : Place × List ℕ). e.0) (sym (front j (omega (arith, lt, below)))) ∙ same ∙ ap (λ (e : Place × List ℕ). e.0) (front k below))

    last : length xs ≤ k → ⊥
    last le =
        let is : k ≡ length xs = omega (arith, le, within, count) in
        none_of_them xs place none j d (omega (arith, lt, is))
        (ap (λ (e : Place × List ℕ). e.0) (sym (front j (omega (arith, lt, is)))) ∙ same ∙ ap (λ (e : Place × List ℕ). e.0) (end_at k is))

-- where no two places are one, none before is this one
pub none_before : (xs : Given) (i : ℕ) (d : Place × List ℕ) → i < length xs → ArePlacesApart xs → image_of (take i xs) (get_or xs i d).0 ≡ None
none_before [] i d lt apart = absurd (omega arith)
none_before (x ∷ xs) zero d lt apart = refl
none_before (x ∷ xs) (suc i) d lt apart =
    elim (cases_Bool (is_same (get_or xs i d).0 x.0)) [
      | inl same ↦ absurd (apart 0 (suc i) d (omega arith) lt (sym (one_same (get_or xs i d).0 x.0 same)))
      | inr other ↦
          ap (λ (b : Bool). if b then Some x.1 else image_of (take i xs) (get_or xs i d).0) other
          ∙ none_before xs i d (omega (arith, lt)) (λ j k e below within. apart (suc j) (suc k) e (omega (arith, below)) (omega (arith, within)))
    ]

-- what it holds at a place that is none of those before
pub image_at : (xs : Given) (i : ℕ) (d : Place × List ℕ) → i < length xs → image_of (take i xs) (get_or xs i d).0 ≡ None → image_of xs (get_or xs i d).0 ≡ Some (get_or xs i d).1
image_at xs i d lt none =
    let e = get_or xs i d in
    let cut : take i xs ++ e ∷ drop (suc i) xs ≡ xs = ap (λ rest. take i xs ++ rest) (sym (drop-cons xs i d lt)) ∙ take-append-drop i xs in
    subst (λ (given : Given). image_of given e.0 ≡ Some e.1) cut (image_late (take i xs) (e ∷ drop (suc i) xs) e.0 none ∙ image_here e.0 e.1 (drop (suc i) xs))
