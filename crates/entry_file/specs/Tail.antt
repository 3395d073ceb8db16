-- The bytes at the end of a file.
use Rattle.std.specs.Prelude.{List, None, Option, Some, drop, length, ℕ, ◌+◌, ◌-◌, ◌≡◌}

-- a content ends in these bytes
abbrev pub IsTail : List ℕ → List ℕ → Type 0
IsTail tail content = tail ≡ drop (length content - length tail) content

-- a file stands there that ends in these bytes, and has so many bytes from the offset up to its last four
abbrev pub HoldsBlock : Option (List ℕ) → List ℕ → ℕ → ℕ → Type 0
HoldsBlock None tail from len = ⊥
HoldsBlock (Some content) tail from len = IsTail tail content × (from + (len + 4) ≡ length content)
