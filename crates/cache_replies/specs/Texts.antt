-- The line of numbers of an entry, and how its fields stand in it; lists.
use Rattle.std.specs.Prelude.{List, [], decimal, flat_map, length, ℕ, ◌++◌, ◌∷◌}
use Rattle.cache_theory.specs.Text.{line, with_number}
pub use Rattle.cache_theory.specs.Text.{found_line}

-- numbers as fields, each after a space
abbrev pub fields : List ℕ → List ℕ
fields [] = []
fields (n ∷ ns) = 32 ∷ (decimal n ++ fields ns)

-- a line of words for each item
abbrev pub lines : {X : Type 0} → (X → List (List ℕ)) → List X → List ℕ
lines words items = flat_map (λ x. line (words x)) items

-- a word with the number of the items, and a line of each
abbrev pub listing : {X : Type 0} → List ℕ → (X → List (List ℕ)) → List X → List ℕ
listing word words items = with_number word (length items) ++ lines words items
