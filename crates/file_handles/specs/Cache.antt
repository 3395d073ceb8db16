-- The handles, and the disk under them.
use Rattle.disk_theory.specs.State.{State}
use Rattle.disk_theory.specs.declared.disk.Disk.{Ghosts}
use Rattle.handle_table.specs.Kept.{Kept}
use Rattle.file_handles.specs.Kept.{kept}
use Rattle.file_handles.specs.declared.handles.Handles.{Handles}

-- what the handles keep, and the state of the disk under them
pub record Cache : Type 0 where
  pub handles : Kept
  pub disk : State

-- these handles over this disk
abbrev pub cache_at : Kept → State → Cache
cache_at k s = record { handles = k; disk = s }

-- the same at a moment of a call
abbrev pub cache : {Self : _} → Ghosts Self → Handles → Self → Cache
cache D handles disk = cache_at (kept handles) (D.state disk)
