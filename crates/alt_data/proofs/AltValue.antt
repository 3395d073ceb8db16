-- Values of the form `1;OFFSET,TYPE`.
use Rattle.std.proofs.Common.{◌≡◌, ◌≢◌, ℕ, suc, ◌+◌, ◌-◌, ◌<◌, ◌^◌, ◌&&◌, Bool, true, false, cond, List, [], ◌∷◌, ◌++◌, length, take, drop, Option, Some, None, refl, sym, ap, subst, ◌∙◌, arith, take-append-drop}
use Rattle.std.specs.Prelude.{find, ◌==◌, ◌||◌, not, IfSome, codes, decimal, nat_le, nat_lt, option_and_then, option_map}
use Rattle.std.specs.Str.{bytes_eq}
use Rattle.std.specs.Char.{digit_value}
use Rattle.std.specs.Str.Parse.{AllDigits}
use Rattle.std.proofs.Math.Seq.{drop-append-add}
use Rattle.std.proofs.lemmas.Bool.{and_parts, eqb-true, le-leb, leb-true, lt-ltb, ltb-true}
use Rattle.std.proofs.lemmas.List.{length-drop, take_all}
use Rattle.std.proofs.lemmas.Fmt.{digits_decimal}
use Rattle.std.proofs.lemmas.Slice.Eq.{bytes_eq-Decides}
use Rattle.cache_base.specs.Numbers.{number_in}
use Rattle.cache_base.proofs.NumberLaws.{number_read, number_spelled, own}
use Rattle.entry_parts.specs.Elements.{AreElements, Element, HasNoZero, element}
use Rattle.entry_parts.specs.Setting.{has_zero}
use Rattle.alt_data.specs.AltData.{Alt, AltIsRead, AltIsSpelled, IsSpelled, after_comma, alt_in, alt_value, before_comma, is_kind, within}

-- what stands before a comma is a prefix of the text
prefix_more : (x : ℕ) (xs : List ℕ) (b : Bool) → take (length (before_comma xs)) xs ≡ before_comma xs
    → take (length (cond b [] (x ∷ before_comma xs))) (x ∷ xs) ≡ cond b [] (x ∷ before_comma xs)
prefix_more x xs true h = refl
prefix_more x xs false h = ap (λ ys. x ∷ ys) h

pub prefix_is : (xs : List ℕ) → take (length (before_comma xs)) xs ≡ before_comma xs
prefix_is [] = refl
prefix_is (x ∷ xs) = prefix_more x xs (x == 44) (prefix_is xs)

-- where something stands after a comma, the text is what stands around it
around_more : (x : ℕ) (xs : List ℕ) (b : Bool) → (x == 44) ≡ b → (0 < length (drop (length (before_comma xs) + 1) xs) → xs ≡ before_comma xs ++ 44 ∷ drop (length (before_comma xs) + 1) xs)
    → 0 < length (drop (length (cond b [] (x ∷ before_comma xs)) + 1) (x ∷ xs))
    → x ∷ xs ≡ cond b [] (x ∷ before_comma xs) ++ 44 ∷ drop (length (cond b [] (x ∷ before_comma xs)) + 1) (x ∷ xs)
around_more x xs true e h some = ap (λ y. y ∷ xs) (eqb-true x 44 e)
around_more x xs false e h some =
    let same : drop (suc (length (before_comma xs)) + 1) (x ∷ xs) ≡ drop (length (before_comma xs) + 1) xs =
    ap (λ (n : ℕ). drop n (x ∷ xs)) (let next : suc (length (before_comma xs)) + 1 ≡ suc (length (before_comma xs) + 1) = omega arith in next) in
    ap (λ ys. x ∷ ys) (h (subst (λ (ys : List ℕ). 0 < length ys) same some)) ∙ ap (λ (ys : List ℕ). (x ∷ before_comma xs) ++ 44 ∷ ys) (sym same)

around : (xs : List ℕ) → 0 < length (after_comma xs) → xs ≡ before_comma xs ++ 44 ∷ after_comma xs
around [] some = absurd (omega (arith, some))
around (x ∷ xs) some = around_more x xs (x == 44) refl (around xs) some

-- digits have no comma
before_more : (c : ℕ) (cs rest : List ℕ) (b : Bool) → (c == 44) ≡ b → digit_value c < 10 → before_comma (cs ++ 44 ∷ rest) ≡ cs → cond b [] (c ∷ before_comma (cs ++ 44 ∷ rest)) ≡ c ∷ cs
before_more c cs rest true e digit h =
    let bad : digit_value 44 < 10 = subst (λ (k : ℕ). digit_value k < 10) (eqb-true c 44 e) digit in
    absurd (omega (arith, bad))
before_more c cs rest false e digit h = ap (λ ys. c ∷ ys) h

before_digits : (ds rest : List ℕ) → AllDigits 10 ds → before_comma (ds ++ 44 ∷ rest) ≡ ds
before_digits [] rest digits = refl
before_digits (c ∷ cs) rest digits = before_more c cs rest (c == 44) refl digits.0 (before_digits cs rest digits.1)

-- ---- kinds

no_zero_more : (x : ℕ) (xs : List ℕ) (b : Bool) → (x == 0) ≡ b → x ≢ 0 → not (has_zero xs) ≡ true → not (b || has_zero xs) ≡ true
no_zero_more x xs true e apart more = absurd (apart (eqb-true x 0 e))
no_zero_more x xs false e apart more = more

no_zero : (xs : List ℕ) → HasNoZero xs → not (has_zero xs) ≡ true
no_zero [] h = refl
no_zero (x ∷ xs) h = no_zero_more x xs (x == 0) refl h.0 (no_zero xs h.1)

-- the end of a text without zero bytes has none
end_fine : (xs ys : List ℕ) → HasNoZero (xs ++ ys) → HasNoZero ys
end_fine [] ys fine = fine
end_fine (x ∷ xs) ys fine = end_fine xs ys fine.1

dropped_fine : (n : ℕ) (xs : List ℕ) → HasNoZero xs → HasNoZero (drop n xs)
dropped_fine n xs fine = end_fine (take n xs) (drop n xs) (subst HasNoZero (sym (take-append-drop n xs)) fine)

both_hold : (a b : Bool) → a ≡ true → b ≡ true → (a && b) ≡ true
both_hold a b h k = rw (h, k) refl

-- such an end is a kind where it has a byte
kind_is : (kind : List ℕ) → 0 < length kind → HasNoZero kind → is_kind kind ≡ true
kind_is kind some fine = both_hold (nat_lt 0 (length kind)) (not (has_zero kind)) (lt-ltb 0 (length kind) some) (no_zero kind fine)

kind_has_bytes : (kind : List ℕ) → is_kind kind ≡ true → 0 < length kind
kind_has_bytes kind h = ltb-true 0 (length kind) (and_parts (nat_lt 0 (length kind)) (not (has_zero kind)) h).0

-- ---- what a value says

tests_hold : (a b : Bool) (x : Option Alt) → a ≡ true → b ≡ true → cond (a && b) x None ≡ x
tests_hold a b x h k = rw (h, k) refl

-- by its first two bytes and the rest
abbrev info_from : List ℕ → List ℕ → Option Alt
info_from form rest =
    cond (bytes_eq form (codes "1;") && is_kind (after_comma rest)) (option_map (λ offset. record { offset = offset; kind = after_comma rest }) (number_in (before_comma rest))) None

-- a value that begins with the form, of which the number was read or not
pub value_read : (value form rest : List ℕ) (at : ℕ) (number : Option ℕ) → HasNoZero value → form ≡ take 2 value → rest ≡ drop 2 value → form ≡ codes "1;" → at ≡ length (before_comma rest) → at + 1 < length rest
    → number ≡ number_in (take at rest) → option_map (λ offset. record { offset = offset; kind = drop (at + 1) rest }) number ≡ alt_in value
value_read value form rest at number fine front back is comma some read =
    let kind : drop (at + 1) rest ≡ after_comma rest = ap (λ (n : ℕ). drop (n + 1) rest) comma in
    let text : take at rest ≡ before_comma rest = ap (λ (n : ℕ). take n rest) comma ∙ prefix_is rest in
    let long : 0 < length (drop (at + 1) rest) = omega (arith, length-drop (at + 1) rest, some) in
    let whole : HasNoZero rest = subst HasNoZero (sym back) (dropped_fine 2 value fine) in
    let good : is_kind (after_comma rest) ≡ true = ap is_kind (sym kind) ∙ kind_is (drop (at + 1) rest) long (dropped_fine (at + 1) rest whole) in
    (λ i. option_map (λ offset. record { offset = offset; kind = kind i }) ((read ∙ ap number_in text) i))
    ∙ sym (tests_hold (bytes_eq form (codes "1;")) (is_kind (after_comma rest))
    (option_map (λ offset. record { offset = offset; kind = after_comma rest }) (number_in (before_comma rest))) ((bytes_eq-Decides form (codes "1;")).1 is) good)
    ∙ (λ i. info_from (front i) (back i))

-- a part that goes to the end
pub to_end : (n : ℕ) (xs : List ℕ) → take (length xs - n) (drop n xs) ≡ drop n xs
to_end n xs = take_all (length xs - n) (drop n xs) (omega (arith, length-drop n xs))

-- ---- what was spelled is read

value_is_read : (offset : ℕ) (kind : List ℕ) → offset < 2 ^ 32 → is_kind kind ≡ true → alt_in (alt_value offset kind) ≡ Some (record { offset = offset; kind = kind })
value_is_read offset kind small fine =
    let text = decimal offset in
    let before : before_comma (text ++ 44 ∷ kind) ≡ text = before_digits text kind (digits_decimal own offset (omega (arith, small))) in
    let after : after_comma (text ++ 44 ∷ kind) ≡ kind = ap (λ (xs : List ℕ). drop (length xs + 1) (text ++ 44 ∷ kind)) before ∙ drop-append-add text (44 ∷ kind) 1 in
    let good : is_kind (after_comma (text ++ 44 ∷ kind)) ≡ true = ap is_kind after ∙ fine in
    tests_hold true (is_kind (after_comma (text ++ 44 ∷ kind))) _ refl good
    ∙ (λ i. option_map (λ n. record { offset = n; kind = after i }) ((ap number_in before ∙ number_read offset small) i))

chosen_within : (len : ℕ) (alt : Alt) (b : Bool) → b ≡ true → cond b (Some alt) None ≡ Some alt
chosen_within len alt b h = rw (h) refl

pub alt_read : AltIsRead
alt_read es offset kind len small fine inside is =
    let alt : Alt = record { offset = offset; kind = kind } in
    ap (λ (o : Option (List ℕ)). option_and_then (within len) (option_and_then alt_in o)) is
    ∙ ap (λ (o : Option Alt). option_and_then (within len) o) (value_is_read offset kind small fine)
    ∙ chosen_within len alt (nat_le offset len) (le-leb offset len inside)

-- ---- what is read was spelled

record IsOfValue (value : List ℕ) (alt : Alt) : Type 0 where
  value_is : value ≡ alt_value alt.offset alt.kind
  number : alt.offset < 2 ^ 32
  fine : is_kind alt.kind ≡ true

of_number : (value : List ℕ) (number : Option ℕ) → IfSome number (λ n. (before_comma (drop 2 value) ≡ decimal n) × (n < 2 ^ 32)) → take 2 value ≡ codes "1;" → is_kind (after_comma (drop 2 value)) ≡ true
    → IfSome (option_map (λ offset. record { offset = offset; kind = after_comma (drop 2 value) }) number) (IsOfValue value)
of_number value None h form fine = tt
of_number value (Some n) h form fine =
    let whole : value ≡ codes "1;" ++ drop 2 value = sym (take-append-drop 2 value) ∙ ap (λ (xs : List ℕ). xs ++ drop 2 value) form in
    record {
      value_is = whole
          ∙ ap (λ (xs : List ℕ). codes "1;" ++ xs) (around (drop 2 value) (kind_has_bytes (after_comma (drop 2 value)) fine) ∙ ap (λ (xs : List ℕ). xs ++ 44 ∷ after_comma (drop 2 value)) h.0);
      number = h.1;
      fine = fine;
    }

of_tests : (value : List ℕ) (b : Bool) → (bytes_eq (take 2 value) (codes "1;") && is_kind (after_comma (drop 2 value))) ≡ b
    → IfSome (cond b (option_map (λ offset. record { offset = offset; kind = after_comma (drop 2 value) }) (number_in (before_comma (drop 2 value)))) None) (IsOfValue value)
of_tests value true e =
    let parts = and_parts (bytes_eq (take 2 value) (codes "1;")) (is_kind (after_comma (drop 2 value))) e in
    of_number value (number_in (before_comma (drop 2 value))) (number_spelled (before_comma (drop 2 value))) ((bytes_eq-Decides (take 2 value) (codes "1;")).0 parts.0) parts.1
of_tests value false e = tt

value_is_spelled : (value : List ℕ) → IfSome (alt_in value) (IsOfValue value)
value_is_spelled value = of_tests value (bytes_eq (take 2 value) (codes "1;") && is_kind (after_comma (drop 2 value))) refl

inside_len : (es : List Element) (len : ℕ) (value : List ℕ) (alt : Alt) (b : Bool) → nat_le alt.offset len ≡ b → element (codes "alt-data") es ≡ Some value → IsOfValue value alt → IfSome (cond b (Some alt) None) (IsSpelled es len)
inside_len es len value alt true e is of = record {
  value = is ∙ ap Some of.value_is;
  number = of.number;
  kind = of.fine;
  inside = leb-true alt.offset len e;
}
inside_len es len value alt false e is of = tt

of_value : (es : List Element) (len : ℕ) (value : List ℕ) (o : Option Alt) → element (codes "alt-data") es ≡ Some value → IfSome o (IsOfValue value) → IfSome (option_and_then (within len) o) (IsSpelled es len)
of_value es len value None is h = tt
of_value es len value (Some alt) is h = inside_len es len value alt (nat_le alt.offset len) refl is h

of_element : (es : List Element) (len : ℕ) (o : Option (List ℕ)) → element (codes "alt-data") es ≡ o → IfSome (option_and_then (within len) (option_and_then alt_in o)) (IsSpelled es len)
of_element es len None is = tt
of_element es len (Some value) is = of_value es len value (alt_in value) is (value_is_spelled value)

pub alt_spelled : AltIsSpelled
alt_spelled es len = of_element es len (element (codes "alt-data") es) refl

-- ---- values of elements

value_more : (name : List ℕ) (e : Element) (es : List Element) (b : Bool) → HasNoZero e.value → IfSome (element name es) HasNoZero → IfSome (option_map (λ f. f.value) (cond b (Some e) (find (λ f. bytes_eq f.name name) es))) HasNoZero
value_more name e es true here more = here
value_more name e es false here more = more

-- a value of elements has no zero byte
pub value_fine : (name : List ℕ) (es : List Element) → AreElements es → IfSome (element name es) HasNoZero
value_fine name [] fine = tt
value_fine name (e ∷ es) fine = value_more name e es (bytes_eq e.name name) fine.0.1 (value_fine name es fine.1)

-- so has a value that is told as that of an element
pub fine_by : {T : Type 0} (f : T → List ℕ) (told : Option T) (value : Option (List ℕ)) → option_map f told ≡ value → IfSome value HasNoZero → IfSome told (λ v. HasNoZero (f v))
fine_by f None value is fine = tt
fine_by f (Some v) value is fine = subst (λ (o : Option (List ℕ)). IfSome o HasNoZero) (sym is) fine
