use Rattle.std.proofs.Common.{◌≡◌, ◌≤◌, ◌<◌, ◌+◌, ◌/◌, ◌++◌, ℕ, List, length, IsTrue, Some}
use Rattle.cache_base.specs.Limits.{chunk_size}
use Rattle.cache_base.specs.declared.limits.TheConstants.{CHUNK}
use Rattle.chunk_store.specs.Stored.{unfinished_file}
use Rattle.disk_theory.specs.Account.{LooksAtNoEntry, SyncsAtMost, no_sync}
use Rattle.disk_theory.specs.State.{standing}
use Rattle.disk_theory.specs.Writes.{WritesAt}
use Rattle.entry_file.specs.NewEntry.{HasBody, grown_len}
use Rattle.entry_file.specs.Held.{held}
use Rattle.entry_file.specs.Unfinished.{IsUnfinished}
use Rattle.entry_file.proofs.Midway.{IsMidway}
use Rattle.entry_file.proofs.new_entry.NewEntry.append.Given as goal

abbrev pub invariant-loop-left : goal.invariant-loop-left
invariant-loop-left g l = record {
  held_less : length (held l.self).rest + length l.left ≤ length (held l.fn.self).rest + length l.b;
  limit : grown_len (held l.self) + length l.left ≡ grown_len (held l.fn.self) + length l.b;
  untouched : length (held l.fn.self).rest + length l.b < CHUNK → l.disk ≡ l.fn.disk;
  midway : (body : List ℕ) → HasBody (held l.fn.self) body
      → IsMidway (held l.self) l.left (body ++ l.b) (IsTrue g.D.Disk.tells × (standing (g.D.Disk.state l.fn.disk) l.place ≡ Some (unfinished_file body))) (standing (g.D.Disk.state l.disk) l.place);
  writes : IsTrue g.D.Disk.tells → WritesAt l.place IsUnfinished (g.D.Disk.state l.fn.disk) (g.D.Disk.state l.disk);
  calls : IsTrue g.D.Disk.tells → (g.D.Disk.counts l.disk).calls + (length (held l.self).rest + length l.left) / chunk_size ≤ (g.D.Disk.counts l.fn.disk).calls + (length (held l.fn.self).rest + length l.b) / chunk_size;
  went_on : IsTrue g.D.Disk.tells → (g.D.Disk.counts l.disk).failed ≡ (g.D.Disk.counts l.fn.disk).failed;
  faults : g.D.Disk.faults l.disk ≡ g.D.Disk.faults l.fn.disk;
  syncs : SyncsAtMost g.D.Disk no_sync l.fn.disk l.disk;
  no_entry : LooksAtNoEntry g.D.Disk l.fn.disk l.disk;
}

abbrev pub decreases-loop-left : goal.decreases-loop-left
decreases-loop-left g l = length l.left
