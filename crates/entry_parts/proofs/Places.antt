-- The place of an element, by going over the elements before it.
use Rattle.std.proofs.Common.{◌≡◌, ℕ, ◌-◌, ◌<◌, ◌≤◌, List, [], ◌∷◌, ◌++◌, length, take, drop, Bool, true, false, cond, refl, sym, ap, ◌∙◌, arith, append_assoc, length-append}
use Rattle.std.specs.Prelude.{is_some, nat_lt}
use Rattle.std.specs.Str.{bytes_eq}
use Rattle.std.proofs.lemmas.List.{take_at, drop_at, drop_all, append-nil}
use Rattle.std.proofs.Math.Seq.{take-length}
use Rattle.entry_parts.specs.Elements.{Element, element_bytes, elements_bytes, AreElements, element, elements_of, have_form}
use Rattle.entry_parts.specs.Places.{IsPlace}
use Rattle.entry_parts.specs.Setting.{with_element, without_element}
use Rattle.entry_parts.proofs.Cuts.{First, none_left, found, not_found}
use Rattle.entry_parts.proofs.ElementLaws.{element_front}
use Rattle.entry_parts.proofs.SpelledLaws.{elements_spelled, elements_are}

-- no element before the rest has the name, and setting or removing one leaves what stands before the rest
pub record HasComeTo (name bytes rest : List ℕ) : Type 0 where
  pub front : List ℕ
  pub left : List Element
  pub fine : AreElements left
  pub spelled : rest ≡ elements_bytes left
  pub joined : bytes ≡ front ++ rest
  pub set : (value : List ℕ) → elements_bytes (with_element name value (elements_of bytes)) ≡ front ++ elements_bytes (with_element name value left)
  pub removed : elements_bytes (without_element name (elements_of bytes)) ≡ front ++ elements_bytes (without_element name left)
  pub same : element name (elements_of bytes) ≡ element name left

pub at_start : (name bytes : List ℕ) → have_form bytes ≡ true → HasComeTo name bytes bytes
at_start name bytes h = record {
  front = [];
  left = elements_of bytes;
  fine = elements_are bytes;
  spelled = sym (elements_spelled bytes h);
  joined = refl;
  set = λ value. refl;
  removed = refl;
  same = refl;
}

-- an element
abbrev new : List ℕ → List ℕ → Element
new name value = record { name = name; value = value }

-- the step over an element of another name, and the place of one with the name
other_set : (name value : List ℕ) (es others : List Element) (f : Element) → es ≡ f ∷ others → bytes_eq f.name name ≡ false → with_element name value es ≡ f ∷ with_element name value others
other_set name value es others f e h = ap (with_element name value) e ∙ ap (λ (b : Bool). cond b (new name value ∷ others) (f ∷ with_element name value others)) h

other_removed : (name : List ℕ) (es others : List Element) (f : Element) → es ≡ f ∷ others → bytes_eq f.name name ≡ false → without_element name es ≡ f ∷ without_element name others
other_removed name es others f e h = ap (without_element name) e ∙ ap (λ (b : Bool). cond b others (f ∷ without_element name others)) h

this_set : (name value : List ℕ) (es others : List Element) (f : Element) → es ≡ f ∷ others → bytes_eq f.name name ≡ true → with_element name value es ≡ record { name = name; value = value } ∷ others
this_set name value es others f e h = ap (with_element name value) e ∙ ap (λ (b : Bool). cond b (new name value ∷ others) (f ∷ with_element name value others)) h

this_removed : (name : List ℕ) (es others : List Element) (f : Element) → es ≡ f ∷ others → bytes_eq f.name name ≡ true → without_element name es ≡ others
this_removed name es others f e h = ap (without_element name) e ∙ ap (λ (b : Bool). cond b others (f ∷ without_element name others)) h

-- the first of the elements left, and those after it
first_joined : (es : List Element) (rest : List ℕ) (f : First es rest) → rest ≡ element_bytes f.first ++ elements_bytes f.others
first_joined es rest f = f.spelled ∙ sym (element_front f.first (elements_bytes f.others))

pub goes_past : (name bytes rest after : List ℕ) (h : HasComeTo name bytes rest) (f : First h.left rest) → bytes_eq f.first.name name ≡ false → after ≡ elements_bytes f.others → HasComeTo name bytes after
goes_past name bytes rest after h f other a = record {
  front = h.front ++ element_bytes f.first;
  left = f.others;
  fine = f.fine.1;
  spelled = a;
  joined = h.joined ∙ ap (λ xs. h.front ++ xs) (first_joined h.left rest f ∙ ap (λ xs. element_bytes f.first ++ xs) (sym a)) ∙ sym (append_assoc h.front (element_bytes f.first) after);
  set = λ value.
      h.set value ∙ ap (λ es. h.front ++ elements_bytes es) (other_set name value h.left f.others f.first f.all other)
      ∙ sym (append_assoc h.front (element_bytes f.first) (elements_bytes (with_element name value f.others)));
  removed =
      h.removed ∙ ap (λ es. h.front ++ elements_bytes es) (other_removed name h.left f.others f.first f.all other)
      ∙ sym (append_assoc h.front (element_bytes f.first) (elements_bytes (without_element name f.others)));
  same = h.same ∙ not_found name h.left f.others f.first f.all other;
}

-- cuts of a whole at the lengths of its ends
front_cut : (bytes front rest : List ℕ) → bytes ≡ front ++ rest → take (length bytes - length rest) bytes ≡ front
front_cut bytes front rest e =
    let l = ap length e ∙ length-append front rest in
    ap (take (length bytes - length rest)) e ∙ take_at front rest (length bytes - length rest) (omega (arith, l))

rest_cut : (bytes front rest : List ℕ) → bytes ≡ front ++ rest → drop (length bytes - length rest) bytes ≡ rest
rest_cut bytes front rest e =
    let l = ap length e ∙ length-append front rest in
    ap (drop (length bytes - length rest)) e ∙ drop_at front rest (length bytes - length rest) (omega (arith, l))

pub rest_within : (bytes front rest : List ℕ) → bytes ≡ front ++ rest → length rest ≤ length bytes
rest_within bytes front rest e = let l = ap length e ∙ length-append front rest in omega (arith, l)

pub after_shorter : (es : List Element) (rest after : List ℕ) (f : First es rest) → after ≡ elements_bytes f.others → length after < length rest
after_shorter es rest after f a =
    let b = ap length f.spelled ∙ length-append f.first.name _ in
    let d = length-append f.first.value (0 ∷ elements_bytes f.others) in
    let e = ap length a in
    omega (arith, b, d, e)

lt_is : (a b : ℕ) → a < b → nat_lt a b ≡ true
lt_is a b h = grind (arith, h)

not_lt_is : (a : ℕ) → nat_lt a a ≡ false
not_lt_is a = grind arith

pub stands_here : (name bytes rest after : List ℕ) (h : HasComeTo name bytes rest) (f : First h.left rest) → bytes_eq f.first.name name ≡ true → after ≡ elements_bytes f.others
    → IsPlace name bytes (length bytes - length rest) (length bytes - length after)
stands_here name bytes rest after h f same a =
    let shorter = after_shorter h.left rest after f a in
    let within = rest_within bytes h.front rest h.joined in
    let front : take (length bytes - length rest) bytes ≡ h.front = front_cut bytes h.front rest h.joined in
    let whole = goes_whole in
    let behind : drop (length bytes - length after) bytes ≡ elements_bytes f.others = rest_cut bytes (h.front ++ element_bytes f.first) after whole ∙ a in
    record {
      in_order = omega (arith, shorter, within);
      inside = omega arith;
      replaced = λ value.
          h.set value ∙ ap (λ es. h.front ++ elements_bytes es) (this_set name value h.left f.others f.first f.all same)
          ∙ (λ i. sym front i ++ (element_bytes (record { name = name; value = value }) ++ sym behind i));
      removed =
          h.removed ∙ ap (λ es. h.front ++ elements_bytes es) (this_removed name h.left f.others f.first f.all same)
          ∙ (λ i. sym front i ++ sym behind i);
      found =
          lt_is (length bytes - length rest) (length bytes - length after) (omega (arith, shorter, within))
          ∙ sym (ap is_some (h.same ∙ found name h.left f.others f.first f.all same));
    }
  where
    goes_whole : bytes ≡ (h.front ++ element_bytes f.first) ++ after
    goes_whole = h.joined ∙ ap (λ xs. h.front ++ xs) (first_joined h.left rest f ∙ ap (λ xs. element_bytes f.first ++ xs) (sym a)) ∙ sym (append_assoc h.front (element_bytes f.first) after)

pub stands_nowhere : (name bytes rest : List ℕ) → HasComeTo name bytes rest → length rest ≡ 0 → IsPlace name bytes (length bytes) (length bytes)
stands_nowhere name bytes rest h l =
    let none : h.left ≡ [] = none_left h.left rest h.spelled l in
    let whole : bytes ≡ h.front = h.joined ∙ ap (λ xs. h.front ++ xs) (h.spelled ∙ ap elements_bytes none) ∙ append-nil h.front in
    let front : take (length bytes) bytes ≡ h.front = take-length bytes ∙ whole in
    let behind : drop (length bytes) bytes ≡ [] = drop_all (length bytes) bytes (omega arith) in
    record {
      in_order = omega arith;
      inside = omega arith;
      replaced = λ value.
          h.set value ∙ ap (λ es. h.front ++ elements_bytes (with_element name value es)) none
          ∙ (λ i. sym front i ++ (element_bytes (record { name = name; value = value }) ++ sym behind i));
      removed = h.removed ∙ ap (λ es. h.front ++ elements_bytes (without_element name es)) none ∙ (λ i. sym front i ++ sym behind i);
      found = not_lt_is (length bytes) ∙ sym (ap is_some (h.same ∙ ap (element name) none));
    }
