-- What follows from the definition of frecency.
use Rattle.std.specs.Prelude.{ℕ, slice_index, ◌+◌, ◌<◌, ◌≤◌}
use Rattle.frecency.specs.Frecency.{points}

-- no place of the table has fewer points than the one before it
abbrev pub TableRises : Type 0
TableRises = (i : ℕ) → i < 16 → slice_index points i ≤ slice_index points (i + 1)
