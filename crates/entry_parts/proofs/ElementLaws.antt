-- Elements that are spelled are read so, and have the form.
use Rattle.std.proofs.Common.{◌≡◌, ℕ, suc, ◌-◌, ◌*◌, ◌%◌, List, [], ◌∷◌, ◌++◌, length, Bool, true, cond, ◌&&◌, refl, sym, ap, ◌∙◌, arith, append_assoc, length-append}
use Rattle.std.specs.Prelude.{◌==◌, filter, slice_index}
use Rattle.std.proofs.Math.Seq.{get_or-append_seam}
use Rattle.std.proofs.lemmas.Bool.{ne_eqb, or_right}
use Rattle.entry_parts.specs.Elements.{Element, element_bytes, elements_bytes, HasNoZero, AreElements, have_form, onto_first, fields_of, in_pairs, elements_of}

-- a field and its zero byte, and what follows
fields_front : (field rest : List ℕ) → HasNoZero field → fields_of (field ++ 0 ∷ rest) ≡ field ∷ fields_of rest
fields_front [] rest h = refl
fields_front (x ∷ xs) rest h =
    ap (λ (b : Bool). cond b ([] ∷ fields_of (xs ++ 0 ∷ rest)) (onto_first x (fields_of (xs ++ 0 ∷ rest)))) (ne_eqb x 0 h.0)
    ∙ ap (onto_first x) (fields_front xs rest h.1)

-- an element and what follows, in another grouping
pub element_front : (e : Element) (rest : List ℕ) → element_bytes e ++ rest ≡ e.name ++ 0 ∷ (e.value ++ 0 ∷ rest)
element_front e rest =
    append_assoc e.name (0 ∷ (e.value ++ 0 ∷ [])) rest
    ∙ ap (λ xs. e.name ++ 0 ∷ xs) (append_assoc e.value (0 ∷ []) rest)

pub elements_of-elements_bytes : (es : List Element) → AreElements es → elements_of (elements_bytes es) ≡ es
elements_of-elements_bytes [] h = refl
elements_of-elements_bytes (e ∷ es) h =
    ap elements_of (element_front e (elements_bytes es))
    ∙ ap in_pairs (fields_front e.name (e.value ++ 0 ∷ elements_bytes es) h.0.0)
    ∙ ap (λ fs. in_pairs (e.name ∷ fs)) (fields_front e.value (elements_bytes es) h.0.1)
    ∙ ap (λ xs. e ∷ xs) (elements_of-elements_bytes es h.1)

-- how many bytes are zero
abbrev zeros : List ℕ → ℕ
zeros xs = length (filter (λ x. x == 0) xs)

zeros_front : (field rest : List ℕ) → HasNoZero field → zeros (field ++ 0 ∷ rest) ≡ suc (zeros rest)
zeros_front [] rest h = refl
zeros_front (x ∷ xs) rest h =
    let others : List ℕ = filter (λ x. x == 0) (xs ++ 0 ∷ rest) in
    ap (λ (b : Bool). length (cond b (x ∷ others) others)) (ne_eqb x 0 h.0)
    ∙ zeros_front xs rest h.1

zeros_even : (es : List Element) → AreElements es → zeros (elements_bytes es) ≡ 2 * length es
zeros_even [] h = refl
zeros_even (e ∷ es) h =
    let first = ap zeros (element_front e (elements_bytes es)) in
    let second = zeros_front e.name (e.value ++ 0 ∷ elements_bytes es) h.0.0 in
    let third = zeros_front e.value (elements_bytes es) h.0.1 in
    let more = zeros_even es h.1 in
    omega (arith, first, second, third, more)

-- the bytes of elements end in a zero
last_zero : (e : Element) (es : List Element) → (front : List ℕ) × (elements_bytes (e ∷ es) ≡ front ++ 0 ∷ [])
last_zero e [] = (e.name ++ 0 ∷ e.value, element_front e [] ∙ sym (append_assoc e.name (0 ∷ e.value) (0 ∷ [])))
last_zero e (f ∷ es) =
    let more = last_zero f es in
    (element_bytes e ++ more.0, ap (λ xs. element_bytes e ++ xs) more.1 ∙ sym (append_assoc (element_bytes e) more.0 (0 ∷ [])))

last_is_zero : (xs front : List ℕ) → xs ≡ front ++ 0 ∷ [] → slice_index xs (length xs - 1) ≡ 0
last_is_zero xs front h =
    let long : length xs - 1 ≡ length front = rw (h, length-append) (omega arith) in
    ap (slice_index xs) long ∙ ap (λ ys. slice_index ys (length front)) h ∙ get_or-append_seam front 0 [] 0

pub have_form-elements_bytes : (es : List Element) → AreElements es → have_form (elements_bytes es) ≡ true
have_form-elements_bytes [] h = refl
have_form-elements_bytes (e ∷ es) h =
    let last : slice_index (elements_bytes (e ∷ es)) (length (elements_bytes (e ∷ es)) - 1) ≡ 0 =
    last_is_zero _ (last_zero e es).0 (last_zero e es).1 in
    let count = zeros_even (e ∷ es) h in
    let even : zeros (elements_bytes (e ∷ es)) % 2 ≡ 0 = omega (arith, count) in
    or_right _ _ (λ i. (last i == 0) && (even i == 0))
