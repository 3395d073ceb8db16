-- How the removal of a file fails.
use Rattle.std.specs.Prelude.{IsTrue, ◌≡◌}
use Rattle.disk_theory.specs.Account.{Ending}
use Rattle.disk_theory.specs.Calls.{Counts}
use Rattle.disk_theory.specs.declared.disk.Disk.{Ghosts}

-- the last call was a change that failed
abbrev pub LastChangeFails : Counts → Type 0
LastChangeFails c = c.failed.change ≡ c.calls

-- where the disk failed, its last call was a change that failed
abbrev pub FailsInRemoval : {Self : _} → Ghosts Self → Ending → Self → Type 0
FailsInRemoval D answer now = answer ≡ Ending.OneFailed → IsTrue D.tells → LastChangeFails (D.counts now)
