use Rattle.std.proofs.Common.{◌≡◌, IsTrue, drop}
use Rattle.disk_theory.specs.Account.{IsCalm, LooksAtNoEntry, no_sync}
use Rattle.disk_theory.specs.Listing.{AreSortedNumbers}
use Rattle.doom_area.proofs.ClearedTo.{IsClearedTo}
use Rattle.doom_area.proofs.clearing.remove_each.Given as goal

abbrev pub invariant-loop-number : goal.invariant-loop-number
invariant-loop-number g l = record {
  rising : AreSortedNumbers (drop l.number-index l.numbers);
  to : IsTrue g.D.Disk.tells → IsClearedTo (drop l.number-index l.numbers) (g.D.Disk.state l.fn.disk) (g.D.Disk.state l.disk);
  looks : LooksAtNoEntry g.D.Disk l.fn.disk l.disk;
  calm : IsCalm g.D.Disk no_sync l.fn.disk l.disk;
}
