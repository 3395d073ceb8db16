-- Bytes that have the form of elements spell elements.
use Rattle.std.proofs.Common.{◌≡◌, ◌≢◌, ℕ, suc, ◌-◌, ◌%◌, ◌<◌, List, [], ◌∷◌, ◌++◌, length, Bool, true, false, cond, ◌||◌, refl, sym, ap, ◌∙◌, arith, append_assoc}
use Rattle.std.specs.Prelude.{◌==◌, flat_map, filter, slice_index}
use Rattle.std.specs.List.{AllByRecursion}
use Rattle.std.proofs.lemmas.Bool.{and_parts, eqb-true, eqb-false, ne_eqb}
use Rattle.entry_parts.specs.Elements.{elements_bytes, elements_of, AreElements, HasNoZero, have_form, onto_first, fields_of, in_pairs, ElementsReadBack, ElementsSpell}
use Rattle.entry_parts.proofs.ElementLaws.{elements_of-elements_bytes, have_form-elements_bytes}

-- fields with their zero bytes
with_zeros : List (List ℕ) → List ℕ
with_zeros fields = flat_map (λ f. f ++ 0 ∷ []) fields

-- the last byte is zero, or there is none
EndsInZero : List ℕ → Type 0
EndsInZero [] = Unit {0}
EndsInZero (x ∷ []) = x ≡ 0
EndsInZero (x ∷ y ∷ ys) = EndsInZero (y ∷ ys)

ends_in_zero : (xs : List ℕ) → 0 < length xs → slice_index xs (length xs - 1) ≡ 0 → EndsInZero xs
unfolding EndsInZero
ends_in_zero [] l h = tt
ends_in_zero (x ∷ []) l h = h
ends_in_zero (x ∷ y ∷ ys) l h =
    let n : length (x ∷ y ∷ ys) - 1 ≡ suc (length (y ∷ ys) - 1) = omega arith in
    ends_in_zero (y ∷ ys) (omega arith) (sym (ap (slice_index (x ∷ y ∷ ys)) n) ∙ h)

-- a byte before the first field
onto_spelled : (x : ℕ) (fields : List (List ℕ)) (y : ℕ) (ys : List ℕ) → with_zeros fields ≡ y ∷ ys → with_zeros (onto_first x fields) ≡ x ∷ y ∷ ys
unfolding with_zeros
onto_spelled x [] y ys e = absurd (cc)
onto_spelled x (f ∷ fs) y ys e = λ i. x ∷ e i

fields_step : (x y : ℕ) (ys : List ℕ) (b : Bool) → (x == 0) ≡ b → with_zeros (fields_of (y ∷ ys)) ≡ y ∷ ys
    → with_zeros (cond b ([] ∷ fields_of (y ∷ ys)) (onto_first x (fields_of (y ∷ ys)))) ≡ x ∷ y ∷ ys
unfolding with_zeros
fields_step x y ys true e w = let zero_is : 0 ≡ x = sym (eqb-true x 0 e) in λ i. zero_is i ∷ w i
fields_step x y ys false e w = onto_spelled x (fields_of (y ∷ ys)) y ys w

fields_spelled : (xs : List ℕ) → EndsInZero xs → with_zeros (fields_of xs) ≡ xs
unfolding with_zeros EndsInZero
fields_spelled [] h = refl
fields_spelled (x ∷ []) h = ap (λ n. with_zeros (fields_of (n ∷ []))) h ∙ ap (λ n. n ∷ []) (sym h)
fields_spelled (x ∷ y ∷ ys) h = fields_step x y ys (x == 0) refl (fields_spelled (y ∷ ys) h)

-- as many fields as zero bytes
length_onto : (x : ℕ) (fields : List (List ℕ)) → length (onto_first x fields) ≡ length fields
length_onto x [] = refl
length_onto x (f ∷ fs) = refl

count_step : (x : ℕ) (xs : List ℕ) (b : Bool) → length (fields_of xs) ≡ length (filter (λ x. x == 0) xs)
    → length (cond b ([] ∷ fields_of xs) (onto_first x (fields_of xs))) ≡ length (cond b (x ∷ filter (λ x. x == 0) xs) (filter (λ x. x == 0) xs))
count_step x xs true e = λ i. suc (e i)
count_step x xs false e = length_onto x (fields_of xs) ∙ e

count_fields : (xs : List ℕ) → length (fields_of xs) ≡ length (filter (λ x. x == 0) xs)
count_fields [] = refl
count_fields (x ∷ xs) = count_step x xs (x == 0) (count_fields xs)

-- no field has a zero byte
onto_no_zero : (x : ℕ) (fields : List (List ℕ)) → x ≢ 0 → AllByRecursion HasNoZero fields → AllByRecursion HasNoZero (onto_first x fields)
onto_no_zero x [] n h = tt
onto_no_zero x (f ∷ fs) n h = ((n, h.0), h.1)

step_no_zero : (x : ℕ) (fields : List (List ℕ)) (b : Bool) → (x == 0) ≡ b → AllByRecursion HasNoZero fields → AllByRecursion HasNoZero (cond b ([] ∷ fields) (onto_first x fields))
step_no_zero x fields true e h = (tt, h)
step_no_zero x fields false e h = onto_no_zero x fields (eqb-false x 0 e) h

fields_no_zero : (xs : List ℕ) → AllByRecursion HasNoZero (fields_of xs)
fields_no_zero [] = tt
fields_no_zero (x ∷ xs) = step_no_zero x (fields_of xs) (x == 0) refl (fields_no_zero xs)

-- an even number of fields makes pairs of all
pairs_spelled : (fields : List (List ℕ)) → length fields % 2 ≡ 0 → elements_bytes (in_pairs fields) ≡ with_zeros fields
unfolding with_zeros
pairs_spelled [] e = refl
pairs_spelled (f ∷ []) e = absurd (cc)
pairs_spelled (f ∷ g ∷ fields) e =
    let more : elements_bytes (in_pairs fields) ≡ with_zeros fields = pairs_spelled fields (omega (arith, e)) in
    ap (λ ys. (f ++ 0 ∷ (g ++ 0 ∷ [])) ++ ys) more
    ∙ append_assoc f (0 ∷ (g ++ 0 ∷ [])) (with_zeros fields)
    ∙ sym (append_assoc f (0 ∷ []) ((g ++ 0 ∷ []) ++ with_zeros fields))

pairs_no_zero : (fields : List (List ℕ)) → AllByRecursion HasNoZero fields → AreElements (in_pairs fields)
pairs_no_zero [] h = tt
pairs_no_zero (f ∷ []) h = tt
pairs_no_zero (f ∷ g ∷ fields) h = ((h.0, h.1.0), pairs_no_zero fields h.1.1)

pub elements_are : (xs : List ℕ) → AreElements (elements_of xs)
elements_are xs = pairs_no_zero (fields_of xs) (fields_no_zero xs)

not_empty : (x : ℕ) (xs : List ℕ) → (length (x ∷ xs) == 0) ≡ false
not_empty x xs = ne_eqb (length (x ∷ xs)) 0 (λ e. omega (arith, e))

empty_or : (xs : List ℕ) (b : Bool) → ((length xs == 0) || b) ≡ true → (0 < length xs → b ≡ true)
empty_or [] b h l = absurd (omega (arith, l))
empty_or (x ∷ xs) b h l =
    let some : (length (x ∷ xs) == 0) ≡ false = not_empty x xs in
    sym (ap (λ c. c || b) some) ∙ h

pub elements_spelled : (xs : List ℕ) → have_form xs ≡ true → elements_bytes (elements_of xs) ≡ xs
unfolding EndsInZero
elements_spelled [] h = refl
elements_spelled (x ∷ xs) h =
    let more : 0 < length (x ∷ xs) = omega arith in
    let parts : _ × _ = and_parts _ _ (empty_or (x ∷ xs) _ h more) in
    let count = count_fields (x ∷ xs) in
    let even : length (filter (λ x. x == 0) (x ∷ xs)) % 2 ≡ 0 = eqb-true _ _ parts.1 in
    let fields_even : length (fields_of (x ∷ xs)) % 2 ≡ 0 = ap (λ n. n % 2) count ∙ even in
    pairs_spelled (fields_of (x ∷ xs)) fields_even
    ∙ fields_spelled (x ∷ xs) (ends_in_zero (x ∷ xs) more (eqb-true _ _ parts.0))

pub elements_read_back : ElementsReadBack
elements_read_back es is = (have_form-elements_bytes es is, elements_of-elements_bytes es is)

pub elements_spell : ElementsSpell
elements_spell xs form = (elements_are xs, elements_spelled xs form)
