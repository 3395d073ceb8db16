-- An index that stays in use: it stands through a session, and only its journal is written.
use Rattle.std.specs.Prelude.{List, Option, Some, [], drop, length, option_map, take, true, ℕ, ⊤, ◌+◌, ◌<◌, ◌≡◌, ◌≢◌}
use Rattle.cache_base.specs.declared.limits.TheConstants.{CHANGED_MAX}
use Rattle.cache_base.specs.declared.name.Name.{Name}
use Rattle.cache_store.specs.Open.{Represents, Tells}
use Rattle.cache_store.specs.Session.{Session}
use Rattle.memory_index.specs.declared.memory_index.MemoryIndex.{MemoryIndex}
use Rattle.cache_theory.specs.Command.{Command}
use Rattle.cache_theory.specs.Command.Command.{Flush, Rebuild}
use Rattle.cache_theory.specs.Machine.{Machine}
use Rattle.disk_theory.specs.Image.{Files}
use Rattle.disk_theory.specs.State.{State, settled, standing}
use Rattle.disk_theory.specs.declared.place.Place.TheVariants.{Index, Log}
use Rattle.doom_area.specs.DoomArea.{RemovesDoomed}
use Rattle.index_file.specs.Index.{flag_at}
use Rattle.index_journal.specs.Journal.{JournalSpells}
use Rattle.index_map.specs.Known.{IsKnown, Known, changed}
use Rattle.index_record.specs.declared.record.IndexRecord.{IndexRecord}
use Rattle.index_theory.specs.Honest.{index_records}
use Rattle.index_theory.specs.Scan.{scan}
use Rattle.index_theory.specs.Start.{start_of}
use Rattle.index_theory.specs.declared.kinds.Start.TheVariants.{Build}
use Rattle.record_list.specs.Change.{IsDiff}
use Rattle.record_list.specs.Lists.{record_at}
use Rattle.startup_read.specs.Closing.{ClosesIndex}

-- the bytes of an index before its flag: its version and its timestamp
abbrev pub before_flag : Option (List ℕ) → Option (List ℕ)
before_flag file = option_map (take flag_at) file

-- and those behind it
abbrev pub behind_flag : Option (List ℕ) → Option (List ℕ)
behind_flag file = option_map (drop (flag_at + 4)) file

-- the index is the same, but for its flag
pub record IsSameIndex (s t : State) : Type 0 where
  pub front : before_flag (standing t Index) ≡ before_flag (standing s Index)
  pub behind : behind_flag (standing t Index) ≡ behind_flag (standing s Index)

-- an index stands, and few records differ from it, where the map is as all maps are
pub record HasFewChanges (map : Known) : Type 0 where
  pub has_base : map.has_base ≡ true
  pub few : IsKnown map → changed map.base map.records < CHANGED_MAX

-- the command does not write the index: it is no `rebuild`, and a `flush` only before the update has ended, or where
-- few records differ from the index that stands
abbrev pub SparesIndex : Command → MemoryIndex → Type 0
SparesIndex Flush index = index.update ≡ [] → HasFewChanges index.map
SparesIndex Rebuild index = ⊥
SparesIndex _ index = ⊤

-- the base of the map are these records
pub record HoldsBase (records : List IndexRecord) (map : Known) : Type 0 where
  pub has_base : map.has_base ≡ true
  pub same : (name : Name) → record_at map.base name ≡ record_at records name

-- the base are the records of the index that stood, which is the same but for its flag
pub record IsBasedOn (s : State) (map : Known) (t : State) : Type 0 where
  pub base : HoldsBase (index_records (standing s Index)) map
  pub same : IsSameIndex s t

-- so it is after an opening, unless no index could be read
abbrev pub OpensInUse : State → Known → State → Type 0
OpensInUse s map t = start_of (standing s) ≢ Build → IsBasedOn s map t

-- a journal stands that has few records
pub record HasShortJournal (files : Files) : Type 0 where
  pub bytes : List ℕ
  pub records : List IndexRecord
  pub stands : files Log ≡ Some bytes
  pub spells : JournalSpells bytes records
  pub few : length records < CHANGED_MAX

-- a journal stands that spells what differs between two lists of records
pub record HasJournalOf (base now : List IndexRecord) (files : Files) : Type 0 where
  pub bytes : List ℕ
  pub changes : List IndexRecord
  pub stands : files Log ≡ Some bytes
  pub spells : JournalSpells bytes changes
  pub diff : IsDiff base now changes

-- the index is the same but for its flag, and the journal spells what differs between its records and those now
pub record StaysInUse (base now : List IndexRecord) (s t : State) : Type 0 where
  pub same : IsSameIndex s t
  pub journal : HasJournalOf base now (standing t)

-- once the update has ended a closing writes a short journal; and no index, where few records differ from it
pub record ClosesInUse (index : MemoryIndex) (s t : State) : Type 0 where
  pub short : index.update ≡ [] → HasShortJournal (standing t)
  pub in_use : index.update ≡ [] → HasFewChanges index.map
      → StaysInUse index.map.base index.map.records s t

-- Some doomed files were removed. Once the update has ended, the index was written then if that was due, with all
-- records and this timestamp, and after it the journal and the flag; before that all was synced, and nothing else done.
pub record ClosesWhole (index : MemoryIndex) (now : ℕ) (s t : State) : Type 0 where
  pub removed : State
  pub removes : RemovesDoomed s removed
  pub whole : index.update ≡ [] → ClosesIndex index.map now removed t
  pub synced : index.update ≢ [] → t ≡ settled removed

-- ---- the same by the machine

-- few records of the machine's scan differ from these
pub record FewDiffer (records : List IndexRecord) (m : Machine) : Type 0 where
  pub changes : List IndexRecord
  pub diff : IsDiff records (scan m.shelf) changes
  pub few : length changes < CHANGED_MAX

-- an index of these records stays in use over the command
abbrev pub StaysOver : List IndexRecord → Machine → Command → Type 0
StaysOver records m Flush = m.rest ≡ [] → FewDiffer records m
StaysOver records m Rebuild = ⊥
StaysOver records m _ = ⊤

-- where the records in memory are right, then the command does not write the index
abbrev pub FewAreSpared : Type 0
FewAreSpared = (records : List IndexRecord) (now : Session) (m : Machine) (c : Command)
    → Represents now m → Tells now m → HoldsBase records now.open_store.index.map
    → StaysOver records m c → SparesIndex c now.open_store.index

-- and a closing leaves an index of these records in use
abbrev pub FewStayInUse : Type 0
FewStayInUse = (records : List IndexRecord) (now : Session) (m : Machine) (t : State)
    → Represents now m → Tells now m → HoldsBase records now.open_store.index.map
    → m.rest ≡ [] → FewDiffer records m → ClosesInUse now.open_store.index now.disk t
    → StaysInUse records (scan m.shelf) now.disk t
