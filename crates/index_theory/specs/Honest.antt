-- Directories whose index, where it is trusted, says what a scan would.
use Rattle.std.specs.Prelude.{Bool, List, None, Option, Some, [], false, if◌then◌else◌, ℕ, ◌↔◌, ◌≡◌}
use Rattle.cache_base.specs.declared.name.Name.{Name}
use Rattle.disk_theory.specs.Image.{Files, IsImage}
use Rattle.disk_theory.specs.Sound.{IsQuiet}
use Rattle.disk_theory.specs.State.{State, standing}
use Rattle.disk_theory.specs.declared.place.Place.TheVariants.{Index, Log, Tmp}
use Rattle.index_file.specs.Checks.{index_fault, index_in}
use Rattle.index_file.specs.Index.{IndexSpells}
use Rattle.index_file.specs.declared.fault.IndexFault.{IndexFault}
use Rattle.index_journal.specs.declared.fault.JournalFault.{JournalFault}
use Rattle.index_journal.specs.Checks.{journal_fault, journal_in}
use Rattle.index_journal.specs.Journal.{JournalSpells}
use Rattle.index_record.specs.declared.record.IndexRecord.{IndexRecord}
use Rattle.index_theory.specs.Ever.{entries}
use Rattle.index_theory.specs.IndexKind.{index_kind}
use Rattle.index_theory.specs.declared.kinds.IndexKind.TheVariants.{Invalid as BadIndex, Dirty, Clean}
use Rattle.index_theory.specs.LogKind.{log_kind}
use Rattle.index_theory.specs.declared.kinds.LogKind.TheVariants.{Invalid as BadLog, Valid}
use Rattle.index_theory.specs.Scan.{IsScan, scanned}
use Rattle.index_theory.specs.Start.{start_of}
use Rattle.index_theory.specs.declared.kinds.Start.TheVariants.{Ready}
use Rattle.record_list.specs.Change.{IsApplied, applied}

-- the records of an index, where one stands
abbrev pub index_records : Option (List ℕ) → List IndexRecord
index_records None = []
index_records (Some c) = index_in c

-- the records of a journal, where one stands
abbrev pub journal_records : Option (List ℕ) → List IndexRecord
journal_records None = []
journal_records (Some c) = journal_in c

-- under each name, the journal applied to the index has the record of the entry, and none where no entry fits
abbrev pub Agrees : Files → Type 0
Agrees files = (name : Name) → applied (index_records (files Index)) (journal_records (files Log)) name ≡ scanned (entries files) name

-- where the start is Ready, the journal applied to the index is the scan of the entries
abbrev pub Honest : Files → Type 0
Honest files = start_of files ≡ Ready → Agrees files

-- each image that a crash may leave is honest
abbrev pub LeavesHonest : State → Type 0
LeavesHonest s = (image : Files) → IsImage s image → Honest image

-- with nothing pending a crash leaves just what stands
abbrev pub QuietLeavesHonest : Type 0
QuietLeavesHonest = (s : State) → IsQuiet s → Honest (standing s) → LeavesHonest s

-- an index that is spelled is dirty or clean by its flag, and has these records
abbrev pub SpelledIndexIs : Type 0
SpelledIndexIs = (c : List ℕ) (timestamp : ℕ) (dirty : Bool) (rs : List IndexRecord) → IndexSpells c timestamp dirty rs
    → (index_kind (Some c) ≡ (if dirty then Dirty else Clean)) × (index_records (Some c) ≡ rs)

-- a journal that is spelled is valid, and has these records
abbrev pub SpelledJournalIs : Type 0
SpelledJournalIs = (c : List ℕ) (rs : List IndexRecord) → JournalSpells c rs → (log_kind (Some c) ≡ Valid) × (journal_records (Some c) ≡ rs)

-- an index that fails a check is invalid
abbrev pub FaultyIndexIs : Type 0
FaultyIndexIs = (c : List ℕ) (f : IndexFault) → index_fault c ≡ Some f → index_kind (Some c) ≡ BadIndex

-- so is a journal
abbrev pub FaultyJournalIs : Type 0
FaultyJournalIs = (c : List ℕ) (f : JournalFault) → journal_fault c ≡ Some f → log_kind (Some c) ≡ BadLog

-- the list of the journal applied to the index is the scan exactly where the directory is honest
abbrev pub ReadyIsScan : Type 0
ReadyIsScan = (files : Files) (out : List IndexRecord) → start_of files ≡ Ready
    → IsApplied (index_records (files Index)) (journal_records (files Log)) out → Honest files ↔ IsScan (entries files) out

-- an index and a journal stand there that spell these records
pub record AreSpelled (files : Files) (timestamp : ℕ) (dirty : Bool) (base js : List IndexRecord)
    : Type 0 where
  pub index : List ℕ
  pub log : List ℕ
  pub index_stands : files Index ≡ Some index
  pub log_stands : files Log ≡ Some log
  pub index_spells : IndexSpells index timestamp dirty base
  pub log_spells : JournalSpells log js

-- where the records that they spell give the scan, they agree with it
abbrev pub SpelledAgrees : Type 0
SpelledAgrees = (files : Files) (timestamp : ℕ) (dirty : Bool) (base js : List IndexRecord) → AreSpelled files timestamp dirty base js
    → ((name : Name) → applied base js name ≡ scanned (entries files) name) → Agrees files

-- and where the index is clean and nothing stands at `index.tmp`, the start is Ready
abbrev pub SpelledIsReady : Type 0
SpelledIsReady = (files : Files) (timestamp : ℕ) (base js : List IndexRecord) → AreSpelled files timestamp false base js
    → files Tmp ≡ None → start_of files ≡ Ready
