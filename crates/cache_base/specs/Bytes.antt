-- Bytes, and big-endian numbers in them.
use Rattle.std.specs.Prelude.{ℕ, ◌<◌, List, drop}
use Rattle.std.specs.List.{AllByRecursion}
use Rattle.std.specs.Int.{w16, w32, to_be_bytes, from_be_bytes}

-- bytes are numbers below 256
abbrev pub AreBytes : List ℕ → Type 0
AreBytes xs = AllByRecursion (λ x. x < 256) xs

-- a number as two big-endian bytes
abbrev pub be16 : ℕ → List ℕ
be16 n = to_be_bytes w16 n

-- a number as four big-endian bytes
abbrev pub be32 : ℕ → List ℕ
be32 n = to_be_bytes w32 n

-- the number in the two bytes from the place i on
abbrev pub be16_at : List ℕ → ℕ → ℕ
be16_at xs i = from_be_bytes w16 (drop i xs)

-- the number in the four bytes from the place i on
abbrev pub be32_at : List ℕ → ℕ → ℕ
be32_at xs i = from_be_bytes w32 (drop i xs)
