-- What the handles keep, and the chunk that they read last.
use Rattle.std.specs.Prelude.{List, ℕ}
use Rattle.handle_table.specs.Kept.{Kept, kept_in}
use Rattle.file_handles.specs.declared.handles.Handles.{Handles}

-- what these handles keep
abbrev pub kept : Handles → Kept
kept h = kept_in h.table

-- the bytes in the buffer of these handles: those of the chunk that was checked or read last
abbrev pub last_read : Handles → List ℕ
last_read h = h.chunk
