use Rattle.std.proofs.Common.{◌≡◌, ◌-◌, ◌≤◌}
use Rattle.std.specs.Bool.{IsTrue}
use Rattle.disk_theory.specs.Account.{IsCalm, LooksAtNoEntry, no_sync}
use Rattle.disk_theory.specs.State.{part_of, standing}
use Rattle.jenkins_hash.specs.Hasher.{WasFedBytes}
use Rattle.startup_read.proofs.large_file.hash_between.Given as goal

-- the hasher was fed all before the place, and nothing has changed
abbrev pub invariant-loop-at : goal.invariant-loop-at
invariant-loop-at g l = record {
  after : l.from ≤ l.at;
  before : l.at ≤ l.end;
  fed : IsTrue g.D.Disk.tells → WasFedBytes l.hasher (part_of l.from (l.at - l.from) (standing (g.D.Disk.state l.fn.disk) l.place));
  state : IsTrue g.D.Disk.tells → g.D.Disk.state l.disk ≡ g.D.Disk.state l.fn.disk;
  calm : IsCalm g.D.Disk no_sync l.fn.disk l.disk;
  unsynced : IsTrue g.D.Disk.tells → (g.D.Disk.counts l.disk).syncs ≡ (g.D.Disk.counts l.fn.disk).syncs;
  no_entry : LooksAtNoEntry g.D.Disk l.fn.disk l.disk;
}

abbrev pub decreases-loop-at : goal.decreases-loop-at
decreases-loop-at g l = l.end - l.at
