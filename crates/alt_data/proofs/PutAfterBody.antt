-- Alternative data that are put after a body are told.
use Rattle.std.proofs.Common.{◌≡◌, ℕ, Bool, true, false, cond, List, [], ◌∷◌, ◌++◌, length, Option, Some, refl, ap, ◌∙◌, arith, length-append}
use Rattle.std.specs.Prelude.{codes, find, option_map}
use Rattle.std.specs.Str.{bytes_eq}
use Rattle.std.proofs.lemmas.List.{drop_at, take_at}
use Rattle.std.proofs.lemmas.Slice.Eq.{bytes_eq-Decides}
use Rattle.entry_parts.specs.Elements.{Element, element}
use Rattle.entry_parts.specs.Setting.{with_element}
use Rattle.alt_data.specs.AltData.{Alt, AltIsPut, alt_bytes, alt_of, alt_value, main_body, with_alt}
use Rattle.alt_data.proofs.AltValue.{alt_read}

abbrev set_to : List ℕ → List ℕ → Element
set_to name value = record { name = name; value = value }

abbrev value_in : List ℕ → List Element → Option (List ℕ)
value_in name es = option_map (λ e. e.value) (find (λ e. bytes_eq e.name name) es)

first_found : (name value : List ℕ) (es : List Element) → value_in name (set_to name value ∷ es) ≡ Some value
first_found name value es =
    ap (λ (b : Bool). option_map (λ (e : Element). e.value) (cond b (Some (set_to name value)) (find (λ e. bytes_eq e.name name) es))) ((bytes_eq-Decides name name).1 refl)

set_more : (name value : List ℕ) (e : Element) (es : List Element) (b : Bool) → bytes_eq e.name name ≡ b → value_in name (with_element name value es) ≡ Some value
    → value_in name (cond b (set_to name value ∷ es) (e ∷ with_element name value es)) ≡ Some value
set_more name value e es true h more = first_found name value es
set_more name value e es false h more =
    ap (λ (b : Bool). option_map (λ (f : Element). f.value) (cond b (Some e) (find (λ f. bytes_eq f.name name) (with_element name value es)))) h ∙ more

-- an element that is set is found
set_found : (name value : List ℕ) (es : List Element) → element name (with_element name value es) ≡ Some value
set_found name value [] = first_found name value []
set_found name value (e ∷ es) = set_more name value e es (bytes_eq e.name name) refl (set_found name value es)

pub alt_put : AltIsPut
alt_put es body kind put small fine =
    let told : alt_of (with_alt body kind es) (length (body ++ put)) ≡ Some (record { offset = length body; kind = kind }) =
    alt_read (with_alt body kind es) (length body) kind (length (body ++ put)) small fine (omega (arith, length-append body put)) (set_found (codes "alt-data") (alt_value (length body) kind) es) in
    record {
      told = told;
      main = ap (λ (o : Option Alt). main_body o (body ++ put)) told ∙ take_at body put (length body) refl;
      bytes = ap (λ (o : Option Alt). alt_bytes o (body ++ put)) told ∙ drop_at body put (length body) refl;
    }
