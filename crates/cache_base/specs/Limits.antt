-- The chunks of a body.
use Rattle.std.specs.Prelude.{ℕ, ◌+◌, ◌/◌}

-- the size of a whole chunk
abbrev pub chunk_size : ℕ
chunk_size = 262144

-- how many chunks n bytes have
abbrev pub chunks : ℕ → ℕ
chunks n = (n + 262143) / 262144
