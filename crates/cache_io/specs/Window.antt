-- Bytes that are held of a source, a window over what it gives.
use Rattle.std.specs.Prelude.{◌≡◌, ◌≤◌, ℕ, List, ◌++◌, slice_range, vec_capacity}
use Rattle.std.specs.declared.option.Option.{Option}
use Rattle.std.specs.Io.KnownBytes.{Consumes}
use Rattle.cache_io.specs.declared.window.Window.{Window}

-- the bytes in a window
abbrev pub items : Window → List ℕ
items w = slice_range w.room.items w.start w.end

-- how many it holds at the most
abbrev pub most_of : Window → ℕ
most_of w = w.most

-- it has the memory for them
abbrev pub HasMemory : Window → Type 0
HasMemory w = w.most ≤ vec_capacity w.room

-- bytes came from the source, after those that were held
pub record Grew (old new : List ℕ) (left now : Option (List ℕ)) : Type 0 where
  pub piece : List ℕ
  pub grown : new ≡ old ++ piece
  pub read : Consumes left now piece
