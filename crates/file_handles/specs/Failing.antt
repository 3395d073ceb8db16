-- What stands after a look at the disk that failed.
use Rattle.std.specs.Prelude.{◌≡◌}
use Rattle.disk_theory.specs.Account.{Ending, Looks}
use Rattle.disk_theory.specs.declared.disk.Disk.{Ghosts}
use Rattle.handle_table.specs.Kept.{Kept}

-- the handles are as before, and of the disk nothing but a look failed: it holds what it held
pub record LeavesAll {Self : _} (D : Ghosts Self) (k after : Kept) (before now : Self)
    : Type 0 where
  pub handles : after ≡ k
  pub looks : Looks D Ending.OneFailed before now
