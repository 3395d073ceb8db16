-- Cutting elements out of their bytes.
use Rattle.std.proofs.Common.{◌≡◌, ◌≢◌, ℕ, zero, suc, ◌+◌, ◌-◌, ◌<◌, ◌≤◌, List, [], ◌∷◌, ◌++◌, length, take, drop, Bool, true, false, cond, refl, sym, ap, subst, ◌∙◌, arith, append_assoc, length-append, length-drop}
use Rattle.std.specs.Prelude.{Some, ◌==◌, slice_index, find, option_map}
use Rattle.std.specs.Str.{bytes_eq}
use Rattle.std.proofs.lemmas.Bool.{eqb-false}
use Rattle.std.proofs.lemmas.List.{take_at, drop_at}
use Rattle.std.proofs.Math.Seq.{take-length, get_or-append_seam}
use Rattle.entry_parts.specs.Elements.{Element, elements_bytes, HasNoZero, AreElements, element, elements_of, have_form}
use Rattle.entry_parts.proofs.ElementLaws.{element_front}
use Rattle.entry_parts.proofs.SpelledLaws.{elements_spelled, elements_are}

-- a byte of the field is not zero
in_field : (field rest : List ℕ) (i : ℕ) → HasNoZero field → i < length field → slice_index (field ++ 0 ∷ rest) i ≢ 0
in_field [] rest i h lt = absurd (omega (arith, lt))
in_field (x ∷ xs) rest zero h lt = h.0
in_field (x ∷ xs) rest (suc i) h lt = in_field xs rest i h.1 (omega (arith, lt))

pub goes_on : (b field rest : List ℕ) (i : ℕ) → b ≡ field ++ 0 ∷ rest → slice_index b i ≢ 0 → i ≤ length field → i + 1 ≤ length field
goes_on b field rest i e n le =
    let other : i ≢ length field = λ h. n (ap (λ ys. slice_index ys i) e ∙ ap (slice_index (field ++ 0 ∷ rest)) h ∙ get_or-append_seam field 0 rest 0) in
    omega (arith, other, le)

pub stops : (b field rest : List ℕ) (i : ℕ) → HasNoZero field → b ≡ field ++ 0 ∷ rest → slice_index b i ≡ 0 → i ≤ length field → i ≡ length field
stops b field rest i h e z le =
    let not_less : i < length field → ⊥ = λ lt. in_field field rest i h lt (ap (λ ys. slice_index ys i) (sym e) ∙ z) in
    omega (arith, not_less, le)

pub within : (b field rest : List ℕ) (i : ℕ) → b ≡ field ++ 0 ∷ rest → i ≤ length field → i < length b
within b field rest i e le = let l = ap length e ∙ length-append field (0 ∷ rest) in omega (arith, l, le)

pub front_is : (b field rest : List ℕ) (i : ℕ) → b ≡ field ++ 0 ∷ rest → i ≡ length field → take i b ≡ field
front_is b field rest i e l = ap (take i) e ∙ take_at field (0 ∷ rest) i (sym l)

pub rest_is : (b field rest : List ℕ) (i : ℕ) → b ≡ field ++ 0 ∷ rest → i ≡ length field → take (length b - (i + 1)) (drop (i + 1) b) ≡ rest
rest_is b field rest i e l =
    let behind : drop (i + 1) b ≡ rest =
    ap (drop (i + 1)) (e ∙ sym (append_assoc field (0 ∷ []) rest)) ∙ drop_at (field ++ 0 ∷ []) rest (i + 1) (length-append field (0 ∷ []) ∙ omega (arith, l)) in
    let long = length-drop (i + 1) b in
    ap (λ n. take n (drop (i + 1) b)) (sym long) ∙ take-length (drop (i + 1) b) ∙ behind

-- the bytes of a value's elements
pub bytes_of : (bytes : List ℕ) (es : List Element) → have_form bytes ≡ true → elements_of bytes ≡ es → bytes ≡ elements_bytes es
bytes_of bytes es h e = sym (elements_spelled bytes h) ∙ ap elements_bytes e

pub good : (bytes : List ℕ) (es : List Element) → elements_of bytes ≡ es → AreElements es
good bytes es e = subst AreElements e (elements_are bytes)

-- the first of some elements
pub record First (es : List Element) (bytes : List ℕ) : Type 0 where
  pub first : Element
  pub others : List Element
  pub all : es ≡ first ∷ others
  pub fine : AreElements (first ∷ others)
  pub spelled : bytes ≡ first.name ++ 0 ∷ (first.value ++ 0 ∷ elements_bytes others)

pub first_of : (es : List Element) (bytes : List ℕ) → AreElements es → bytes ≡ elements_bytes es → 0 < length bytes → First es bytes
first_of [] bytes h e some = absurd (let l = ap length e in omega (arith, l, some))
first_of (f ∷ es) bytes h e some = record { first = f; others = es; all = refl; fine = h; spelled = e ∙ element_front f (elements_bytes es) }

pub none_left : (es : List Element) (bytes : List ℕ) → bytes ≡ elements_bytes es → length bytes ≡ 0 → es ≡ []
none_left [] bytes e l = refl
none_left (f ∷ es) bytes e l = absurd (let n = ap length (e ∙ element_front f (elements_bytes es)) ∙ length-append f.name _ in omega (arith, n, l))

pub found : (name : List ℕ) (es others : List Element) (f : Element) → es ≡ f ∷ others → bytes_eq f.name name ≡ true → element name es ≡ Some f.value
found name es others f e h = ap (element name) e ∙ ap (λ (b : Bool). option_map (λ (e : Element). e.value) (cond b (Some f) (find (λ (e : Element). bytes_eq e.name name) others))) h

pub not_found : (name : List ℕ) (es others : List Element) (f : Element) → es ≡ f ∷ others → bytes_eq f.name name ≡ false → element name es ≡ element name others
not_found name es others f e h = ap (element name) e ∙ ap (λ (b : Bool). option_map (λ (e : Element). e.value) (cond b (Some f) (find (λ (e : Element). bytes_eq e.name name) others))) h

pub some_left : (bytes : List ℕ) (b : Bool) → b ≡ (length bytes == 0) → b ≡ false → 0 < length bytes
some_left bytes b e h = let other = eqb-false (length bytes) 0 (sym e ∙ h) in omega (arith, other)
