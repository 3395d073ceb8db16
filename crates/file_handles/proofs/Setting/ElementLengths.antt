-- How many bytes elements have of which one is set.
use Rattle.std.proofs.Common.{◌≡◌, inl, inr, ℕ, ◌+◌, ◌<◌, ◌≤◌, List, [], ◌∷◌, ◌++◌, length, Bool, cond, Some, None, refl, sym, ap, ◌∙◌, arith, length-append}
use Rattle.std.specs.Str.{bytes_eq}
use Rattle.std.proofs.lemmas.Bool.{cases_Bool, le-leb, lt-leb}
use Rattle.cache_theory.proofs.Names.{same_bytes}
use Rattle.cache_base.specs.declared.limits.TheConstants.{ELEMENTS_MAX}
use Rattle.entry_parts.specs.Elements.{Element, element, element_bytes, elements_bytes}
use Rattle.entry_parts.specs.Setting.{with_element}
use Rattle.entry_parts.proofs.Cuts.{found, not_found}
use Rattle.file_handles.specs.Setting.{small_len}

length_element : (e : Element) → length (element_bytes e) ≡ length e.name + length e.value + 2
length_element e =
    let one = length-append e.name (0 ∷ (e.value ++ 0 ∷ [])) in
    let two = length-append e.value (0 ∷ []) in
    omega (arith, one, two)

abbrev new : List ℕ → List ℕ → Element
new name value = record { name = name; value = value }

length_new : (name value : List ℕ) → length (element_bytes (new name value)) ≡ length name + length value + 2
length_new name value = length_element (new name value)

-- one whose value changes
pub set_length : (name value old : List ℕ) (es : List Element) → element name es ≡ Some old
    → (length (elements_bytes (with_element name value es)) + length old ≡ length (elements_bytes es) + length value) × (length name + length old + 2 ≤ length (elements_bytes es))
set_length name value old [] there = absurd (cc)
set_length name value old (e ∷ es) there = elim (cases_Bool (bytes_eq e.name name)) [
  | inl same ↦
      let value_is : Some e.value ≡ Some old = sym (found name (e ∷ es) es e refl same) ∙ there in
      let old_is : e.value ≡ old = cc in
      let name_is : length e.name ≡ length name = ap length (same_bytes e.name name same) in
      let was = length-append (element_bytes e) (elements_bytes es) in
      let is : length (elements_bytes (with_element name value (e ∷ es))) ≡ length (element_bytes (new name value)) + length (elements_bytes es) =
      ap (λ (b : Bool). length (elements_bytes (cond b (new name value ∷ es) (e ∷ with_element name value es)))) same ∙ length-append (element_bytes (new name value)) (elements_bytes es) in
      let first = length_element e in
      let second = length_new name value in
      let long : length e.value ≡ length old = ap length old_is in
      (omega arith, omega arith)
  | inr other ↦
      let more = set_length name value old es (sym (not_found name (e ∷ es) es e refl other) ∙ there) in
      let was = length-append (element_bytes e) (elements_bytes es) in
      let is : length (elements_bytes (with_element name value (e ∷ es))) ≡ length (element_bytes e) + length (elements_bytes (with_element name value es)) =
      ap (λ (b : Bool). length (elements_bytes (cond b (new name value ∷ es) (e ∷ with_element name value es)))) other ∙ length-append (element_bytes e) (elements_bytes (with_element name value es)) in
      (omega arith, omega arith)
]

-- one more
pub added_length : (name value : List ℕ) (es : List Element) → element name es ≡ None → length (elements_bytes (with_element name value es)) ≡ length (elements_bytes es) + length name + length value + 2
added_length name value [] none =
    let one = length-append (element_bytes (new name value)) [] in
    let long = length_new name value in
    omega arith
added_length name value (e ∷ es) none = elim (cases_Bool (bytes_eq e.name name)) [
  | inl same ↦ let some : None ≡ Some e.value = sym none ∙ found name (e ∷ es) es e refl same in absurd (cc)
  | inr other ↦
      let more = added_length name value es (sym (not_found name (e ∷ es) es e refl other) ∙ none) in
      let was = length-append (element_bytes e) (elements_bytes es) in
      let is : length (elements_bytes (with_element name value (e ∷ es))) ≡ length (element_bytes e) + length (elements_bytes (with_element name value es)) =
      ap (λ (b : Bool). length (elements_bytes (cond b (new name value ∷ es) (e ∷ with_element name value es)))) other ∙ length-append (element_bytes e) (elements_bytes (with_element name value es)) in
      omega arith
]

-- a length that is small is given, and one that is not is none
pub small_is : (n m : ℕ) → n ≡ m → n ≤ ELEMENTS_MAX → Some n ≡ small_len m
small_is n m e le = ap Some e ∙ ap (λ (b : Bool). cond b (Some m) None) (sym (le-leb m ELEMENTS_MAX (omega (arith, e, le))))

pub large_is : (m : ℕ) → ELEMENTS_MAX < m → None ≡ small_len m
large_is m lt = ap (λ (b : Bool). cond b (Some m) None) (sym (lt-leb m ELEMENTS_MAX lt))
