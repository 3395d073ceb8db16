-- A list made of a part of each slot.
use Rattle.std.proofs.Common.{◌≡◌, ℕ, ◌+◌, ◌<◌, List, [], ◌∷◌, ◌++◌, length, get_or, take, refl, sym, ap, ◌∙◌}
use Rattle.std.specs.List.{cons_option, filter_map}
use Rattle.std.specs.Prelude.{None, Option, Some, option_to_list}
use Rattle.std.proofs.lemmas.List.{take_more}
use Rattle.std.proofs.lemmas.List.Elements.{filter_map-append}

one : {X Y : Type 0} (f : X → Option Y) (x : X) → option_to_list (f x) ≡ filter_map f (x ∷ [])
one {X} {Y} f x = go (f x)
  where
    go : (o : Option Y) → option_to_list o ≡ cons_option o []
    go None = refl
    go (Some y) = refl

pub filter_map_more : {X Y : Type 0} (f : X → Option Y) (xs : List X) (i : ℕ) (d : X) → i < length xs
    → filter_map f (take i xs) ++ option_to_list (f (get_or xs i d)) ≡ filter_map f (take (i + 1) xs)
filter_map_more f xs i d low =
    ap (λ l. filter_map f (take i xs) ++ l) (one f (get_or xs i d))
    ∙ sym (filter_map-append f (take i xs) (get_or xs i d ∷ []))
    ∙ ap (filter_map f) (sym (take_more xs i d low))
