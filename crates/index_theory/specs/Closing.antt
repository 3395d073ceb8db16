-- The last steps of a closing: the journal is written and synced, the flag is cleared, and that is synced.
use Rattle.std.specs.Prelude.{Bool, List, None, false, length, ℕ, ◌≡◌}
use Rattle.cache_base.specs.Bytes.{be32}
use Rattle.cache_base.specs.declared.name.Name.{Name}
use Rattle.disk_theory.specs.Sound.{IsQuiet, IsSound}
use Rattle.disk_theory.specs.State.{State, created, settled, standing, wrote}
use Rattle.disk_theory.specs.State.Write.{End, Patch}
use Rattle.disk_theory.specs.declared.place.Place.TheVariants.{Index, Log, Tmp}
use Rattle.index_file.specs.Index.{flag_at}
use Rattle.index_record.specs.declared.record.IndexRecord.{IndexRecord}
use Rattle.index_theory.specs.Apart.{IsApart}
use Rattle.index_theory.specs.Ever.{entries_on}
use Rattle.index_theory.specs.Honest.{AreSpelled, Honest, LeavesHonest}
use Rattle.index_theory.specs.Scan.{IsScan, TellsScan, scanned}
use Rattle.index_theory.specs.Start.{start_of}
use Rattle.index_theory.specs.declared.kinds.Start.TheVariants.{Ready}
use Rattle.index_theory.specs.Unclean.{IsUnclean}
use Rattle.record_list.specs.Change.{HasNoRemoved, IsApplied, IsDiff, applied}
use Rattle.record_list.specs.Lists.{IsByName, record_at}

-- a new journal is made
abbrev pub log_begun : State → State
log_begun s = created Log s

-- its bytes are written
abbrev pub log_filled : List ℕ → State → State
log_filled bytes s = wrote Log (End 0 bytes) (log_begun s)

-- these leave no clean index
abbrev pub LogKeepsUnclean : Type 0
LogKeepsUnclean = (s : State) (bytes : List ℕ) → IsSound s → IsApart s → IsUnclean s → IsUnclean (log_begun s) × IsUnclean (log_filled bytes s)

-- these are synced
abbrev pub log_synced : List ℕ → State → State
log_synced bytes s = settled (log_filled bytes s)

-- the flag is written
abbrev pub flagged : List ℕ → State → State
flagged flag s = wrote Index (Patch flag_at flag) s

-- the flag is cleared once the journal is synced
abbrev pub flag_cleared : List ℕ → State → State
flag_cleared bytes s = flagged (be32 0) (log_synced bytes s)

-- and then that is synced
abbrev pub closed : List ℕ → State → State
closed bytes s = settled (flag_cleared bytes s)

-- an index and a journal stand, and under each name the journal applied to the index has the record of the entry that
-- stands, and none where no entry fits
pub record SaysScan (s : State) (dirty : Bool) : Type 0 where
  pub timestamp : ℕ
  pub base : List IndexRecord
  pub changes : List IndexRecord
  pub spelled : AreSpelled (standing s) timestamp dirty base changes
  pub same : (name : Name) → applied base changes name ≡ scanned (entries_on s) name

-- so it is where the list of the changes applied to the base is the scan
abbrev pub AppliedSaysScan : Type 0
AppliedSaysScan = (s : State) (timestamp : ℕ) (dirty : Bool) (base changes records : List IndexRecord)
    → AreSpelled (standing s) timestamp dirty base changes → IsApplied base changes records → IsScan (entries_on s) records → SaysScan s dirty

-- and where the changes, sorted by name, are the difference of the base, in any order, to the records now
abbrev pub DiffSaysScan : Type 0
DiffSaysScan = (s : State) (timestamp : ℕ) (dirty : Bool) (base changes known diff now : List IndexRecord)
    → AreSpelled (standing s) timestamp dirty base changes → ((name : Name) → record_at base name ≡ record_at known name)
    → IsDiff known now diff → IsByName diff changes → HasNoRemoved now
    → TellsScan (entries_on s) now → SaysScan s dirty

-- then, with nothing pending before, the flag may come out as anything
abbrev pub ClosingLeavesHonest : Type 0
ClosingLeavesHonest = (s : State) (dirty : Bool) (flag : List ℕ) → IsQuiet s → IsSound s → SaysScan s dirty → length flag ≡ 4
    → LeavesHonest (flagged flag s)

-- after the last sync the index is clean, and says the same
abbrev pub ClosedSaysScan : Type 0
ClosedSaysScan = (s : State) (dirty : Bool) → IsSound s → SaysScan s dirty → SaysScan (settled (flagged (be32 0) s)) false

-- what stands is honest then
abbrev pub ScanIsHonest : Type 0
ScanIsHonest = (s : State) (dirty : Bool) → SaysScan s dirty → Honest (standing s)

-- where nothing stands at `index.tmp` the start is Ready
abbrev pub ScanIsReady : Type 0
ScanIsReady = (s : State) → SaysScan s false → standing s Tmp ≡ None → start_of (standing s) ≡ Ready
