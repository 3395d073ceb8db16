-- The first line of a text.
use Rattle.std.specs.Prelude.{List, [], if◌then◌else◌, ℕ, ◌==◌, ◌∷◌}

-- the bytes up to the first newline, itself included, or all bytes
abbrev pub first_line : List ℕ → List ℕ
first_line [] = []
first_line (x ∷ xs) = x ∷ (if x == 10 then [] else first_line xs)
