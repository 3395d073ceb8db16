-- A moment of a session with one part changed.
use Rattle.std.specs.Prelude.{List, Option, ℕ}
use Rattle.cache_tool.specs.World.{Progress, Supply}

abbrev pub with_source : Progress → Supply → Progress
with_source p source = record p { source = source }

abbrev pub with_left : Progress → Option (List ℕ) → Progress
with_left p left = record p { source = record (p.source) { left = left } }

abbrev pub with_taken : Progress → Option (List ℕ) → Progress
with_taken p taken = record p { taken = taken }
