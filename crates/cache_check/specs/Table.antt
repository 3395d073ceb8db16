-- Finite maps from names, as lists by rising names. Each word computes.
use Rattle.std.specs.Prelude.{List, Option, T, map, ℕ}
use Rattle.std.specs.Cmp.Lexicographic.{slice_cmp}
use Rattle.std.specs.FinMap.{find, is_sorted, put}
use Rattle.std.specs.Ordering.{nat_cmp}
use Rattle.std.specs.declared.cmp.Ordering.{Ordering}
use Rattle.cache_base.specs.declared.name.Name.{Name}

-- names in the order of their bytes
abbrev pub bytes_cmp : List ℕ → List ℕ → Ordering
bytes_cmp = slice_cmp nat_cmp

-- a map, as its pairs of a name and a value
abbrev pub Table : Type 0 → Type 0
Table X = List (List ℕ × X)

-- the names rise, and so none stands twice
pub record IsTable {X : Type 0} (t : Table X) : Type 0 where
  pub rising : T (is_sorted bytes_cmp t)

-- the value of a name, if it has one
abbrev pub get : {X : Type 0} → Table X → List ℕ → Option X
get t name = find bytes_cmp name t

-- the table with this value under the name
abbrev pub insert : {X : Type 0} → Table X → List ℕ → X → Table X
insert t name x = put bytes_cmp name x t

-- the names in a table
abbrev pub keys : {X : Type 0} → Table X → List (List ℕ)
keys t = map (λ e. e.0) t

-- a name as records and lists have it
abbrev pub name_of : List ℕ → Name
name_of name = record { 0 = name }
