-- A closing of the index, in its steps.
use Rattle.std.specs.Prelude.{Bool, List, if◌then◌else◌, length, true, ℕ, ◌≡◌, ◌⊎◌}
use Rattle.cache_base.specs.Bytes.{be32}
use Rattle.disk_theory.specs.Account.{one_sync}
use Rattle.disk_theory.specs.State.{State, settled, standing}
use Rattle.index_journal.specs.Journal.{IsPrinted}
use Rattle.index_map.specs.Known.{IsKnown, Known, changed}
use Rattle.index_record.specs.declared.record.IndexRecord.{IndexRecord}
use Rattle.index_theory.specs.Apart.{IsApart}
use Rattle.index_theory.specs.Closing.{closed, flag_cleared, flagged, log_begun, log_filled, log_synced}
use Rattle.index_theory.specs.Ever.{entries_on}
use Rattle.index_theory.specs.Honest.{Honest, LeavesHonest}
use Rattle.index_theory.specs.Scan.{TellsScan}
use Rattle.index_theory.specs.Start.{start_of}
use Rattle.index_theory.specs.declared.kinds.Start.TheVariants.{Ready}
use Rattle.index_theory.specs.Unclean.{IsUnclean}
use Rattle.record_list.specs.Change.{IsDiff}
pub use Rattle.startup_read.specs.Refreshing.{IsAmidRefresh, Refreshes, after_refresh}

-- ---- the journal and the flag

-- these bytes are a journal with the difference of the base to the records now
pub record PrintsChanges (map : Known) (bytes : List ℕ) : Type 0 where
  pub known : IsKnown map
  pub changes : List IndexRecord
  pub diff : IsDiff map.base map.records changes
  pub count : length changes ≡ changed map.base map.records
  pub printed : IsPrinted changes bytes

-- how far the journal and the flag have come
pub data ClosingMoment : Type 0 where
  Unlogged : ClosingMoment
  Begun : ClosingMoment
  Filled : ClosingMoment
  Synced : ClosingMoment
  Cleared : ClosingMoment
  Closed : ClosingMoment

-- what the disk holds at such a moment, where the journal has these bytes
abbrev pub closing_at : ClosingMoment → List ℕ → State → State
closing_at Unlogged bytes s = s
closing_at Begun bytes s = log_begun s
closing_at Filled bytes s = log_filled bytes s
closing_at Synced bytes s = log_synced bytes s
closing_at Cleared bytes s = flag_cleared bytes s
closing_at Closed bytes s = closed bytes s

-- the second state is what these steps leave of the first at one of the moments
abbrev pub IsAmidLogging : List ℕ → State → State → Type 0
IsAmidLogging bytes s t = (moment : ClosingMoment) × (t ≡ closing_at moment bytes s)

-- the flag was cleared or not, and that was synced or not
abbrev pub IsAmidClearing : State → State → Type 0
IsAmidClearing s t = (t ≡ s) ⊎ ((t ≡ flagged (be32 0) s) ⊎ (t ≡ settled (flagged (be32 0) s)))

-- the most syncs that a closing of the index takes: of an index that is written, of its journal and of its flag; and one
-- where the update has not ended
abbrev pub closing_syncs : Bool → ℕ
closing_syncs ended = if ended then 3 else one_sync

-- ---- both

-- a closing to its end: the index is written where that is due, then the journal, and then the flag is cleared
abbrev pub ClosesIndex : Known → ℕ → State → State → Type 0
ClosesIndex map now s t = (u : State) × (Refreshes map now s u × ((bytes : List ℕ) × (PrintsChanges (after_refresh map) bytes × (t ≡ closed bytes u))))

-- a closing that has reached one of its moments
abbrev pub IsAmidClosing : Known → ℕ → State → State → Type 0
IsAmidClosing map now s t =
    IsAmidRefresh map now s t
    ⊎ ((u : State) × (Refreshes map now s u × ((bytes : List ℕ) × (PrintsChanges (after_refresh map) bytes × IsAmidLogging bytes u t))))

-- ---- what it is for

-- a crash leaves an honest directory, where before the closing it could leave no trusted index and, if the update has
-- ended, the records say what a scan would
abbrev pub ClosesHonest : Bool → List IndexRecord → State → State → Type 0
ClosesHonest ended records s t = IsApart s → IsUnclean s → (ended ≡ true → TellsScan (entries_on s) records) → LeavesHonest t

-- what stands is trusted, and says what a scan would
abbrev pub IsTrusted : State → Type 0
IsTrusted s = (start_of (standing s) ≡ Ready) × Honest (standing s)

-- so it is in the end, where the records say what a scan would
abbrev pub LeavesTrusted : List IndexRecord → State → State → Type 0
LeavesTrusted records s t = IsApart s → TellsScan (entries_on s) records → IsTrusted t
