-- What a disk has kept that was only looked at.
use Rattle.std.specs.Prelude.{IsTrue, ◌≡◌}
use Rattle.disk_theory.specs.declared.disk.Disk.{Ghosts}

-- no change was made of the disk and no sync: it holds the same, with the same steps since its last sync, and no change
-- and no sync of it failed
pub record IsOnlySeen {Self : _} (D : Ghosts Self) (before now : Self) : Type 0 where
  pub state : IsTrue D.tells → D.state now ≡ D.state before
  pub no_change : IsTrue D.tells → (D.counts now).failed ≡ (D.counts before).failed
  pub unsynced : IsTrue D.tells → (D.counts now).syncs ≡ (D.counts before).syncs
