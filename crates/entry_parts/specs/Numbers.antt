-- Big-endian numbers that are read from bytes and written again.
use Rattle.std.specs.Prelude.{ℕ, ◌≡◌, ◌≤◌, List, length, take}
use Rattle.std.specs.Int.{Width, from_be_bytes, to_be_bytes}
use Rattle.cache_base.specs.Bytes.{AreBytes}

-- a number of this width, read from the first n bytes, is written as these n bytes again
abbrev pub NumberSpells : Width → ℕ → Type 0
NumberSpells w n = (xs : List ℕ) → AreBytes xs → n ≤ length xs → to_be_bytes w (from_be_bytes w xs) ≡ take n xs
