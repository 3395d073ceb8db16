-- How an answer is tied to what a disk counts.
use Rattle.std.specs.Prelude.{Err, IsTrue, Ok, Result, ℕ, ◌+◌, ◌≡◌, ◌≤◌}
use Rattle.cache_base.specs.Causes.{CountsFailure}
use Rattle.disk_theory.specs.Calls.{LastCallFails, LastFails, LastLookFails, StopsAtFault}
use Rattle.disk_theory.specs.declared.disk.Disk.{Ghosts}
use Rattle.disk_theory.specs.declared.disk.DiskFault.{DiskFault}
use Rattle.disk_theory.specs.declared.disk.DiskFault.TheVariants.{Failed, Memory}

-- what an answer says of the calls of a disk: none failed, one failed, or memory ran out
pub data Ending : Type 0 where
  NoneFailed : Ending
  OneFailed : Ending
  OutOfMemory : Ending

-- what a fault says of the calls
abbrev pub fault_ending : DiskFault → Ending
fault_ending Failed = Ending.OneFailed
fault_ending Memory = Ending.OutOfMemory

-- what an answer says of them: at Ok that none failed, and else what its fault says
abbrev pub ending : {T : Type 0} → Result T DiskFault → Ending
ending (Ok value) = Ending.NoneFailed
ending (Err fault) = fault_ending fault

-- how many syncs a call makes at the most
abbrev pub no_sync : ℕ
no_sync = 0

abbrev pub one_sync : ℕ
one_sync = 1

-- so many syncs were made at the most, those that failed too
abbrev pub SyncsAtMost : {Self : _} → Ghosts Self → ℕ → Self → Self → Type 0
SyncsAtMost D most before now = IsTrue D.tells → (D.counts now).syncs ≤ (D.counts before).syncs + most

-- the faults of the disk are accounted for by the answer, and so many syncs were made at the most
pub record Accounts {Self : _} (D : Ghosts Self) (answer : Ending) (most : ℕ) (before now : Self)
    : Type 0 where
  -- a fault is answered only where the count of faults rose, and otherwise the count is the same
  pub cause : CountsFailure (answer ≡ Ending.OneFailed) (D.faults before) (D.faults now)
  -- where none is answered and memory sufficed, no change and no sync failed
  pub went_on : answer ≡ Ending.NoneFailed → IsTrue D.tells
      → (D.counts now).failed ≡ (D.counts before).failed
  -- after a change or a sync that failed no call follows
  pub stops : IsTrue D.tells → StopsAtFault (D.counts before) (D.counts now)
  -- nor does one after the call that the answer tells of, whatever it was
  pub last : answer ≡ Ending.OneFailed → IsTrue D.tells → LastCallFails (D.counts now)
  pub syncs : SyncsAtMost D most before now

-- the call only looked: the disk holds the same, nothing was synced, no change and no sync failed, and the faults are
-- accounted for
pub record Looks {Self : _} (D : Ghosts Self) (answer : Ending) (before now : Self) : Type 0 where
  pub cause : CountsFailure (answer ≡ Ending.OneFailed) (D.faults before) (D.faults now)
  pub state : IsTrue D.tells → D.state now ≡ D.state before
  pub no_change : IsTrue D.tells → (D.counts now).failed ≡ (D.counts before).failed
  -- where a look failed no call follows
  pub last : answer ≡ Ending.OneFailed → IsTrue D.tells → LastLookFails (D.counts now)
  pub unsynced : IsTrue D.tells → (D.counts now).syncs ≡ (D.counts before).syncs

-- where the disk failed, its last call was a change or a sync that failed
abbrev pub FailsInChange : {Self : _} → Ghosts Self → Ending → Self → Type 0
FailsInChange D answer now = answer ≡ Ending.OneFailed → IsTrue D.tells → LastFails (D.counts now)

-- no call failed in between, as at each turn of a loop, and so many syncs were made at the most
pub record IsCalm {Self : _} (D : Ghosts Self) (most : ℕ) (before now : Self) : Type 0 where
  pub faults : D.faults now ≡ D.faults before
  pub no_change : IsTrue D.tells → (D.counts now).failed ≡ (D.counts before).failed
  pub syncs : SyncsAtMost D most before now

-- no entry was looked at
abbrev pub LooksAtNoEntry : {Self : _} → Ghosts Self → Self → Self → Type 0
LooksAtNoEntry D before now = IsTrue D.tells → (D.counts now).entry_reads ≡ (D.counts before).entry_reads

-- the call only changed: no entry was looked at, where the disk failed it was in a change or a sync, the faults are
-- accounted for, and so many syncs were made at the most
pub record OnlyChanges {Self : _} (D : Ghosts Self) (answer : Ending) (most : ℕ) (before now : Self)
    : Type 0 where
  pub account : Accounts D answer most before now
  pub change : FailsInChange D answer now
  pub no_entry : LooksAtNoEntry D before now

-- the call looked at no entry, the faults are accounted for, and so many syncs were made at the most
pub record LeavesEntriesUnread {Self : _} (D : Ghosts Self) (answer : Ending) (most : ℕ)
    (before now : Self)
    : Type 0 where
  pub account : Accounts D answer most before now
  pub no_entry : LooksAtNoEntry D before now
