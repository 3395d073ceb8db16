-- What tags say, and what one more tag adds to it.
use Rattle.std.proofs.Common.{◌≡◌, ℕ, ◌<◌, ◌≤◌, List, [], ◌∷◌, ◌++◌, Bool, true, false, cond, ◌||◌, refl, sym, ap, ◌∙◌, arith}
use Rattle.std.specs.Prelude.{Option, Some, None, ◌==◌, find, option_map, unwrap_or, if◌then◌else◌}
use Rattle.std.specs.List.{AllByRecursion}
use Rattle.std.specs.Option.{option_or}
use Rattle.std.proofs.lemmas.Bool.{eq-eqb, eqb-true, ne_eqb}
use Rattle.std.proofs.lemmas.List.Folds.{list_any-append, find-append}
use Rattle.entry_key.specs.Key.{Tag, doubled}
use Rattle.entry_key.specs.Tags.{has_tag, tag_value}

-- no letter is above the last
abbrev pub Low : ℕ → List Tag → Type 0
Low last tags = AllByRecursion (λ t. t.letter ≤ last) tags

pub low_more : (last : ℕ) (tags : List Tag) (t : Tag) → Low last tags → last ≤ t.letter → Low t.letter (tags ++ t ∷ [])
low_more last [] t h le = (omega arith, tt)
low_more last (s ∷ tags) t h le = let l = h.0 in (omega (arith, l, le), low_more last tags t h.1 le)

-- the tags say this
pub record Tells (a : Bool) (o e : List ℕ) (tags : List Tag) : Type 0 where
  pub anonymous : a ≡ has_tag 97 tags
  pub origin : o ≡ doubled (tag_value 79 tags)
  pub extra : e ≡ doubled (tag_value 126 tags)

or_swap : (a b : Bool) → (a || (b || false)) ≡ (b || a)
or_swap true true = refl
or_swap true false = refl
or_swap false true = refl
or_swap false false = refl

has_more : (c : ℕ) (tags : List Tag) (t : Tag) → has_tag c (tags ++ t ∷ []) ≡ ((t.letter == c) || has_tag c tags)
has_more c tags t = list_any-append (λ (t : Tag). t.letter == c) tags (t ∷ []) ∙ or_swap (has_tag c tags) (t.letter == c)

-- the value of the tag that was found
abbrev found : Option Tag → List ℕ
found o = unwrap_or (option_map (λ (t : Tag). t.value) o) []

or_none : (o : Option Tag) → option_or o None ≡ o
or_none (Some t) = refl
or_none None = refl

-- a tag of another letter changes no value
value_still : (c : ℕ) (tags : List Tag) (t : Tag) → (t.letter == c) ≡ false → tag_value c (tags ++ t ∷ []) ≡ tag_value c tags
value_still c tags t n =
    ap found (find-append (λ (t : Tag). t.letter == c) tags (t ∷ [])
    ∙ ap (λ (b : Bool). option_or (find (λ (t : Tag). t.letter == c) tags) (cond b (Some t) None)) n
    ∙ or_none _)

-- a tag of a greater letter has the value of that letter
value_now : (last : ℕ) (tags : List Tag) (t : Tag) → Low last tags → last < t.letter → tag_value t.letter (tags ++ t ∷ []) ≡ t.value
value_now last [] t low lt = ap (λ (b : Bool). found (cond b (Some t) None)) (eq-eqb t.letter t.letter refl)
value_now last (s ∷ tags) t low lt =
    let l = low.0 in
    ap (λ (b : Bool). found (cond b (Some s) (find (λ (u : Tag). u.letter == t.letter) (tags ++ t ∷ []))))
    (ne_eqb s.letter t.letter (λ e. omega (arith, e, l, lt)))
    ∙ value_now last tags t low.1 lt

-- a spelled value, with one more tag
spelled_more : (c last : ℕ) (before : List ℕ) (tags : List Tag) (t : Tag) (b : Bool) → (t.letter == c) ≡ b → Low last tags → last < t.letter
    → before ≡ doubled (tag_value c tags) → cond b (doubled t.value) before ≡ doubled (tag_value c (tags ++ t ∷ []))
spelled_more c last before tags t true e low lt h =
    ap doubled (sym (ap (λ n. tag_value n (tags ++ t ∷ [])) (sym (eqb-true t.letter c e)) ∙ value_now last tags t low lt))
spelled_more c last before tags t false e low lt h = h ∙ ap doubled (sym (value_still c tags t e))

pub tells_more : (a a' : Bool) (o o' e e' spelled : List ℕ) (last : ℕ) (tags : List Tag) (t : Tag) → Low last tags → last < t.letter → Tells a o e tags
    → spelled ≡ doubled t.value → a' ≡ ((t.letter == 97) || a) → o' ≡ (if t.letter == 79 then spelled else o) → e' ≡ (if t.letter == 126 then spelled else e)
    → Tells a' o' e' (tags ++ t ∷ [])
tells_more a a' o o' e e' spelled last tags t low lt told s p q r = record {
  anonymous = p ∙ ap (λ b. (t.letter == 97) || b) told.anonymous ∙ sym (has_more 97 tags t);
  origin = q ∙ ap (λ ys. cond (t.letter == 79) ys o) s ∙ spelled_more 79 last o tags t (t.letter == 79) refl low lt told.origin;
  extra = r ∙ ap (λ ys. cond (t.letter == 126) ys e) s ∙ spelled_more 126 last e tags t (t.letter == 126) refl low lt told.extra;
}
