-- Which calls look at the files of entries, and which change the files of the index.
use Rattle.std.specs.Prelude.{IsTrue, List, None, Option, Result, Some, [], false, length, take, true, ℕ, ⊤, ◌*◌, ◌+◌, ◌<◌, ◌≡◌, ◌≢◌, ◌≤◌}
use Rattle.cache_base.specs.declared.limits.TheConstants.{CHANGED_MAX}
use Rattle.cache_base.specs.declared.name.Name.{Name}
use Rattle.memory_index.specs.declared.memory_index.MemoryIndex.{MemoryIndex}
use Rattle.cache_theory.specs.Command.{Command}
use Rattle.cache_theory.specs.Command.Command.{At, ClearNames, ClearOrigin, Close, ElementOf, Dump, Evict, EvictNames, Finish, FinishAs, Flush, Get, GetAlt, HasEntry, ListRecords, MainBody, OpenKey, ReadPart, Rebuild, Resume, ResumeNames, StepUpdate, UpdateState, Verify}
use Rattle.disk_theory.specs.Calls.{counted_read}
use Rattle.disk_theory.specs.State.{State, settled}
use Rattle.disk_theory.specs.declared.disk.Disk.{Ghosts}
use Rattle.disk_theory.specs.declared.disk.DiskFault.{DiskFault}
use Rattle.disk_theory.specs.declared.place.Place.{Place}
use Rattle.entry_file.specs.Looks.{meta_looks}
use Rattle.file_handles.specs.Closing.{writes_draft}
use Rattle.handle_table.specs.Kept.{Kept}
use Rattle.index_map.specs.Known.{Known, changed}
use Rattle.startup_read.specs.Refreshing.{Refreshes}
use Rattle.startup_read.specs.Writing.{WritesIndex as WritesWhole}

-- the names whose files a clearing reads that is resumed, where the mark of an origin stands
abbrev pub names_resumed : Option ℕ → List Name → ℕ
names_resumed None rest = 0
names_resumed (Some origin) rest = length rest

-- the names whose files the command reads, where it uses the index, by the mark that stands and the names that the
-- update has still to read
abbrev pub names_read : Command → Option ℕ → List Name → Option ℕ
names_read (At now) mark rest = Some 0
names_read (HasEntry key) mark rest = Some 0
names_read ListRecords mark rest = Some (length rest)
names_read (Evict kb) mark rest = Some (length rest)
names_read (EvictNames names) mark rest = Some (length rest)
names_read (ClearOrigin origin) mark rest = Some (length rest)
names_read (ClearNames names) mark rest = Some (length rest)
names_read Resume mark rest = Some (names_resumed mark rest)
names_read (ResumeNames names) mark rest = Some (length rest)
names_read Flush mark rest = Some 0
names_read (StepUpdate n) mark rest = Some (length (take n rest))
names_read UpdateState mark rest = Some 0
names_read _ mark rest = None

-- at most the looks for an entry's metadata are made for each name
abbrev pub ReadsEntriesOf : {Self : _} → Ghosts Self → ℕ → Self → Self → Type 0
ReadsEntriesOf D names before now =
    IsTrue D.tells → (D.counts now).entry_reads ≤ (D.counts before).entry_reads + meta_looks * names

-- the disk is looked at once, at this place, and is as before
abbrev pub LooksOnceAt : {Self : _} → Ghosts Self → Place → Self → Self → Type 0
LooksOnceAt D place before now =
    (D.state now ≡ D.state before)
    × ((size : Result (Option ℕ) DiskFault) × (D.counts now ≡ counted_read size place (D.counts before)))

-- a command that makes no call of the disk
abbrev pub MakesNoCall : Command → Type 0
MakesNoCall (At now) = ⊤
MakesNoCall (ElementOf s name) = ⊤
MakesNoCall (HasEntry key) = ⊤
MakesNoCall UpdateState = ⊤
MakesNoCall _ = ⊥

-- one that only looks at the disk
abbrev pub OnlyLooks : Command → Type 0
OnlyLooks (OpenKey s key) = ⊤
OnlyLooks (ReadPart s from len) = ⊤
OnlyLooks (Get key) = ⊤
OnlyLooks (GetAlt key) = ⊤
OnlyLooks (MainBody key) = ⊤
OnlyLooks ListRecords = ⊤
OnlyLooks (StepUpdate n) = ⊤
OnlyLooks Verify = ⊤
OnlyLooks Dump = ⊤
OnlyLooks _ = ⊥

-- one that syncs nothing, by what the handles keep: each but a `finish`, the closing of a slot whose entry is not
-- finished, a `clear`, also one that is resumed, a `flush` and a `rebuild`
abbrev pub NeverSyncs : Kept → Command → Type 0
NeverSyncs k (Finish s) = ⊥
NeverSyncs k (FinishAs s header elements) = ⊥
NeverSyncs k (Close s) = writes_draft k s ≡ false
NeverSyncs k (ClearOrigin origin) = ⊥
NeverSyncs k Resume = ⊥
NeverSyncs k Flush = ⊥
NeverSyncs k Rebuild = ⊥
NeverSyncs k c = ⊤

-- a command that may write the file `index`
abbrev pub WritesIndex : Command → Type 0
WritesIndex Flush = ⊤
WritesIndex Rebuild = ⊤
WritesIndex _ = ⊥

-- a command after which nothing is pending
abbrev pub SyncsAll : Command → Type 0
SyncsAll (ClearOrigin origin) = ⊤
SyncsAll c = WritesIndex c

-- the file `index` has all records but for few
pub record IsFresh (map : Known) : Type 0 where
  pub has_base : map.has_base ≡ true
  pub few : changed map.base map.records < CHANGED_MAX

-- what a `flush` leaves: where the update has ended the index was written if that was due, with all records and this
-- timestamp; and all is synced
pub record Flushes (index : MemoryIndex) (now : ℕ) (s t : State) : Type 0 where
  pub ended : index.update ≡ [] → (u : State) × (Refreshes index.map now s u × (t ≡ settled u))
  pub going_on : index.update ≢ [] → t ≡ settled s

-- what a `rebuild` leaves: the index was written, with all records and this timestamp, and all is synced
abbrev pub Rebuilds : Known → ℕ → State → State → Type 0
Rebuilds map now s t = (u : State) × (WritesWhole map.records now s u × (t ≡ settled u))

-- the file `index` has all records
pub record IsWritten (map : Known) : Type 0 where
  pub has_base : map.has_base ≡ true
  pub all : map.base ≡ map.records
