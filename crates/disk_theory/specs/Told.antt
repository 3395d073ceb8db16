-- What holds of the states of a disk that tells, before and after a call.
use Rattle.std.specs.Prelude.{IsTrue}
use Rattle.disk_theory.specs.State.{State}
use Rattle.disk_theory.specs.declared.disk.Disk.{Ghosts}

-- the relation holds between what the disk held before and what it holds now
abbrev pub Told : {Self : _} → Ghosts Self → (State → State → Type 0) → Self → Self → Type 0
Told D R before now = IsTrue D.tells → R (D.state before) (D.state now)
