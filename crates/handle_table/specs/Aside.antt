-- The numbers of the files that stand aside.
use Rattle.std.specs.Prelude.{List, Option, filter_map, option_and_then, ℕ}
use Rattle.handle_table.specs.declared.object.Object.{Object}

-- the number of the file of an object that stands aside
abbrev pub number_in : Option Object → Option ℕ
number_in x = option_and_then (λ y. y.aside) x

-- the numbers of the files that stand aside
abbrev pub numbers_in : List (Option Object) → List ℕ
numbers_in objects = filter_map number_in objects
