-- Calls of a disk that only look.
use Rattle.std.specs.Prelude.{ℕ, ◌≡◌, ◌≤◌, ◌+◌}
use Rattle.disk_theory.specs.Calls.{Counts}

-- the looks that are enough for the metadata of an entry
abbrev pub meta_looks : ℕ
meta_looks = 4

-- at most n calls were made, none of them a sync, and no change failed
pub record LooksAtMost (n : ℕ) (before now : Counts) : Type 0 where
  pub calls : now.calls ≤ before.calls + n
  pub entry_reads : now.entry_reads ≤ before.entry_reads + n
  pub no_change : now.failed ≡ before.failed
  pub unsynced : now.syncs ≡ before.syncs
