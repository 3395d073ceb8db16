-- The numbers of the doomed objects, in the order of their places.
use Rattle.std.proofs.Common.{◌≡◌, ℕ, zero, suc, ◌+◌, ◌<◌, ◌≤◌, List, [], ◌∷◌, ◌++◌, length, get_or, take, Option, Some, None, refl, sym, ap, subst, ◌∙◌, arith, length-set}
use Rattle.std.specs.List.{Contains, cons_option, filter_map}
use Rattle.std.specs.Prelude.{slice_get, slice_set, unwrap_or}
use Rattle.std.proofs.lemmas.List.{append-nil, take_more}
use Rattle.std.proofs.lemmas.List.Elements.{Contains-append_left, Contains-append_right, filter_map-append}
use Rattle.cache_base.specs.declared.limits.TheConstants.{SLOTS}
use Rattle.handle_table.specs.Aside.{number_in, numbers_in}
use Rattle.handle_table.specs.Kept.{Kept, object_at, with_object}
use Rattle.handle_table.specs.declared.object.Object.{Object}
use Rattle.handle_table.proofs.KeptLaws.{place_within}

one_more_place : (objects : List (Option Object)) (i : ℕ) (x : Option Object) → i < length objects → x ≡ get_or objects i x → numbers_in (take (i + 1) objects) ≡ numbers_in (take i objects) ++ numbers_in (x ∷ [])
one_more_place objects i x lt is =
    ap (λ l. numbers_in l) (take_more objects i x lt ∙ ap (λ y. take i objects ++ y ∷ []) (sym is))
    ∙ filter_map-append number_in (take i objects) (x ∷ [])

-- a place with a doomed object more
pub numbers_more : (objects : List (Option Object)) (i : ℕ) (x : Option Object) (n : ℕ) → i < length objects → x ≡ get_or objects i x → number_in x ≡ Some n → numbers_in (take (i + 1) objects) ≡ numbers_in (take i objects) ++ n ∷ []
numbers_more objects i x n lt is doomed = one_more_place objects i x lt is ∙ ap (λ o. numbers_in (take i objects) ++ filter_map (λ (y : Option ℕ). y) (o ∷ [])) doomed

-- a place with none
pub numbers_same : (objects : List (Option Object)) (i : ℕ) (x : Option Object) → i < length objects → x ≡ get_or objects i x → number_in x ≡ None → numbers_in (take (i + 1) objects) ≡ numbers_in (take i objects)
numbers_same objects i x lt is none =
    one_more_place objects i x lt is ∙ ap (λ o. numbers_in (take i objects) ++ filter_map (λ (y : Option ℕ). y) (o ∷ [])) none ∙ append-nil (numbers_in (take i objects))

-- the number of each doomed object is one of them
pub kept_number : (o : Option ℕ) (rest : List ℕ) (d : ℕ) → Contains rest d → Contains (cons_option o rest) d
kept_number None rest d h = h
kept_number (Some e) rest d h = Contains-append_right (e ∷ []) rest d h

pub new_number : (o : Option ℕ) (rest : List ℕ) (d : ℕ) → o ≡ Some d → Contains (cons_option o rest) d
new_number o rest d is = subst (λ x. Contains (cons_option x rest) d) (sym is) (Contains-append_left (d ∷ []) rest d (0, omega arith, refl))

pub number_of_doomed : (objects : List (Option Object)) (p d : ℕ) → number_in (unwrap_or (slice_get objects p) None) ≡ Some d → Contains (numbers_in objects) d
number_of_doomed [] p d is = absurd (cc)
number_of_doomed (x ∷ xs) zero d is = new_number (number_in x) (numbers_in xs) d is
number_of_doomed (x ∷ xs) (suc p) d is = kept_number (number_in x) (numbers_in xs) d (number_of_doomed xs p d is)

-- an object whose file stands under its name has none, so the numbers are the same without it
numbers_without : (objects : List (Option Object)) (p : ℕ) → number_in (unwrap_or (slice_get objects p) None) ≡ None → numbers_in (slice_set objects p None) ≡ numbers_in objects
numbers_without [] p none = refl
numbers_without (x ∷ xs) zero none = ap (λ n. cons_option n (numbers_in xs)) (sym none)
numbers_without (x ∷ xs) (suc p) none = ap (cons_option (number_in x)) (numbers_without xs p none)

-- there are no more of them than places, and fewer where a place has no object
pub at_most_one : (o : Option ℕ) (rest : List ℕ) → length (cons_option o rest) ≤ length rest + 1
at_most_one None rest = omega arith
at_most_one (Some n) rest = omega arith

at_most : (objects : List (Option Object)) → length (numbers_in objects) ≤ length objects
at_most [] = omega arith
at_most (x ∷ xs) = let rest = at_most xs in let one = at_most_one (number_in x) (numbers_in xs) in omega (arith, rest, one)

fewer : (objects : List (Option Object)) (p : ℕ) → p < length objects → length (numbers_in (slice_set objects p None)) < length objects
fewer [] p lt = absurd (omega (arith, lt))
fewer (x ∷ xs) zero lt = let rest = at_most xs in omega (arith, rest)
fewer (x ∷ xs) (suc p) lt =
    let rest = fewer xs p (omega (arith, lt)) in
    let one = at_most_one (number_in x) (numbers_in (slice_set xs p None)) in
    omega (arith, rest, one)

-- The numbers of the other objects, once one is taken out.
module _ (k a : Kept) (p : ℕ) (x : Object) (at : object_at k p ≡ Some x) (taken : a ≡ with_object k p None) (numbers : List ℕ) (are : numbers ≡ numbers_in a.objects) where
  pub numbers_left : x.aside ≡ None → numbers ≡ numbers_in k.objects
  numbers_left none = are ∙ ap (λ (j : Kept). numbers_in j.objects) taken ∙ numbers_without k.objects p (ap number_in at ∙ none)

  pub few_left : length a.objects ≡ SLOTS → length numbers < SLOTS
  few_left rows =
      let lt = fewer k.objects p (place_within k p x at) in
      let same = ap length (are ∙ ap (λ (j : Kept). numbers_in j.objects) taken) in
      let long = ap (λ (j : Kept). length j.objects) taken ∙ length-set k.objects p None in
      omega (arith, lt, same, long, rows)
