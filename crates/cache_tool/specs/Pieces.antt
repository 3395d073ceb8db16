-- Bytes in pieces.
use Rattle.std.specs.Prelude.{List, [], drop, suc, take, zero, ℕ, ◌∷◌}

-- each piece has `size` bytes, but the last, which may have fewer; the fuel is no less than the number of bytes
abbrev pub pieces_of : ℕ → ℕ → List ℕ → List (List ℕ)
pieces_of size zero bytes = []
pieces_of size (suc fuel) [] = []
pieces_of size (suc fuel) (x ∷ xs) = take size (x ∷ xs) ∷ pieces_of size fuel (drop size (x ∷ xs))
