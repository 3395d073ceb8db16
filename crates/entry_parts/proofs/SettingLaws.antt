-- Elements of which one was set or removed are elements, and their bytes spell them.
use Rattle.std.proofs.Common.{◌≡◌, ℕ, ◌-◌, List, [], ◌∷◌, ◌++◌, length, take, drop, Bool, true, false, cond, refl, sym, ap, subst, ◌∙◌, length-drop}
use Rattle.std.specs.Prelude.{None, ◌==◌, ◌||◌, not, nat_lt, ◌&&◌}
use Rattle.std.specs.Str.{bytes_eq}
use Rattle.std.proofs.lemmas.Bool.{and_parts, eqb-false}
use Rattle.std.proofs.Math.Seq.{take-length}
use Rattle.cache_base.specs.Checks.{first_failing}
use Rattle.cache_base.proofs.CheckLaws.{all_hold}
use Rattle.entry_parts.specs.Elements.{Element, element_bytes, elements_bytes, HasNoZero, AreElements, elements_of, have_form}
use Rattle.entry_parts.specs.Places.{IsPlace}
use Rattle.entry_parts.specs.Setting.{has_zero, set_fault, with_element, without_element}
use Rattle.entry_parts.specs.declared.fault.PartsFault.{PartsFault}
use Rattle.entry_parts.proofs.ElementLaws.{elements_of-elements_bytes, have_form-elements_bytes}
use Rattle.entry_parts.proofs.SpelledLaws.{elements_are}

one_more : (x : ℕ) (xs : List ℕ) (b : Bool) → (x == 0) ≡ b → (not (has_zero xs) ≡ true → HasNoZero xs) → not (b || has_zero xs) ≡ true → HasNoZero (x ∷ xs)
one_more x xs true e more h = absurd (cc)
one_more x xs false e more h = (eqb-false x 0 e, more h)

no_zero : (xs : List ℕ) → not (has_zero xs) ≡ true → HasNoZero xs
no_zero [] h = tt
no_zero (x ∷ xs) h = one_more x xs (x == 0) refl (no_zero xs) h

-- where no check fails, the first two hold
first_two : (a b c : Bool) (x y z : PartsFault) → first_failing ((a, x) ∷ (b, y) ∷ (c, z) ∷ []) ≡ None → (a ≡ true) × (b ≡ true)
first_two a b c x y z h = let all = all_hold ((a, x) ∷ (b, y) ∷ (c, z) ∷ []) h in (all.0, all.1.0)

-- elements of either choice
either : (b : Bool) (es fs : List Element) → AreElements es → AreElements fs → AreElements (cond b es fs)
either true es fs h k = h
either false es fs h k = k

with_fine : (name value : List ℕ) (es : List Element) → HasNoZero name → HasNoZero value → AreElements es → AreElements (with_element name value es)
with_fine name value [] n v h = ((n, v), tt)
with_fine name value (e ∷ es) n v h = either (bytes_eq e.name name) (record { name = name; value = value } ∷ es) (e ∷ with_element name value es) ((n, v), h.1) (h.0, with_fine name value es n v h.1)

without_fine : (name : List ℕ) (es : List Element) → AreElements es → AreElements (without_element name es)
without_fine name [] h = tt
without_fine name (e ∷ es) h = either (bytes_eq e.name name) es (e ∷ without_element name es) h.1 (h.0, without_fine name es h.1)

-- bytes that spell these elements
pub record Spell (bytes : List ℕ) (es : List Element) : Type 0 where
  pub form : have_form bytes ≡ true
  pub elements : elements_of bytes ≡ es

spell : (bytes : List ℕ) (es : List Element) → AreElements es → bytes ≡ elements_bytes es → Spell bytes es
spell bytes es h e = record {
  form = ap have_form e ∙ have_form-elements_bytes es h;
  elements = ap elements_of e ∙ elements_of-elements_bytes es h;
}

to_end : (xs : List ℕ) (n : ℕ) → take (length xs - n) (drop n xs) ≡ drop n xs
to_end xs n = ap (λ l. take l (drop n xs)) (sym (length-drop n xs)) ∙ take-length (drop n xs)

pub spell_set : (name value old new : List ℕ) (es : List Element) (start end : ℕ) → elements_of old ≡ es → set_fault name value (elements_of old) ≡ None → IsPlace name old start end
    → new ≡ take start old ++ (element_bytes (record { name = name; value = value }) ++ take (length old - end) (drop end old)) → Spell new (with_element name value es)
spell_set name value old new es start end view none place is =
    let checks = first_two (nat_lt 0 (length name) && not (has_zero name)) (not (has_zero value)) _ _ _ _ none in
    let parts : _ × (not (has_zero name) ≡ true) = and_parts _ _ checks.0 in
    let name_fine = no_zero name parts.1 in
    let value_fine = no_zero value checks.1 in
    let fine = with_fine name value (elements_of old) name_fine value_fine (elements_are old) in
    let bytes : new ≡ elements_bytes (with_element name value (elements_of old)) =
    is ∙ ap (λ xs. take start old ++ (element_bytes (record { name = name; value = value }) ++ xs)) (to_end old end) ∙ sym (place.replaced value) in
    subst (λ es. Spell new (with_element name value es)) view (spell new _ fine bytes)

pub spell_removed : (name read old new : List ℕ) (es : List Element) (start end : ℕ) → read ≡ old → elements_of old ≡ es → IsPlace name read start end
    → new ≡ take start old ++ drop end old → Spell new (without_element name es)
spell_removed name read old new es start end same view found is =
    let place = subst (λ xs. IsPlace name xs start end) same found in
    let fine = without_fine name (elements_of old) (elements_are old) in
    subst (λ es. Spell new (without_element name es)) view (spell new _ fine (is ∙ sym place.removed))
