-- What the records in memory say of the entries.
use Rattle.std.specs.Prelude.{List, None, Option, [], drop, if◌then◌else◌, take, ℕ, ◌≡◌, ◌≢◌}
use Rattle.cache_base.specs.declared.name.Name.{Name}
use Rattle.index_map.specs.Known.{Known, SameBase}
use Rattle.index_record.specs.declared.record.IndexRecord.{IndexRecord}
use Rattle.index_theory.specs.Ever.{Entries}
use Rattle.index_theory.specs.Scan.{scanned}
use Rattle.index_update.specs.Reads.{ReadsIn}
use Rattle.index_update.specs.Rest.{name_bytes, without}
use Rattle.index_update.specs.Slices.{ReadsSlice}
use Rattle.index_update.specs.Tells.{TellsAll, TellsSeen}
use Rattle.memory_index.specs.declared.memory_index.MemoryIndex.{MemoryIndex}
use Rattle.record_list.specs.Lists.{AreSorted, record_at, same_name}

-- the record that was seen of each name outside the rest is that of the entry, and none where no entry fits; once the
-- update has ended so is each record
pub record TellsOf (es : Entries) (index : MemoryIndex) : Type 0 where
  pub seen : TellsSeen es index.map (name_bytes index.update)
  pub all : index.update ≡ [] → TellsAll es index.map

-- what was seen is right of every name, and there is no other record
pub record TellsAtEnd (es : Entries) (map : Known) : Type 0 where
  pub seen : TellsSeen es map []
  pub all : TellsAll es map

-- no record was seen
abbrev pub SeesNone : Known → Type 0
SeesNone map = (name : Name) → record_at map.seen name ≡ None

-- a name is off the rest of these names, whose record was set before in this map
pub record TakenOff (name : Name) (map : Known) (names : List Name) (new : MemoryIndex)
    : Type 0 where
  pub rest : new.update ≡ without name names
  pub base : SameBase map new.map
  pub tells : (es : Entries) → TellsSeen es map (name_bytes (without name names))
      → (names ≡ [] → TellsAll es map)
      → TellsOf es new

-- the scan now has this record under the name, or none, and is otherwise unchanged
abbrev pub ScanSets : Name → Option IndexRecord → Entries → Entries → Type 0
ScanSets name r before now = (q : Name) → scanned now q ≡ (if same_name name q then r else scanned before q)

-- the record of a name is this one now, or there is none: the name leaves the rest, and the records tell of the entries
-- with that of the name as it is now
pub record SetsRecord (name : Name) (r : Option IndexRecord) (old new : MemoryIndex) : Type 0 where
  pub rest : new.update ≡ without name old.update
  pub base : SameBase old.map new.map
  pub tells : (before now : Entries) → ScanSets name r before now → TellsOf before old
      → TellsOf now new

-- the records in memory once the update has ended: where it had ended, those of the map; and else those that were seen,
-- with the records of the entries whose names were left to read
pub record EndsWith (es : Entries) (index : MemoryIndex) (records : List IndexRecord) : Type 0 where
  pub ended : index.update ≡ [] → (name : Name)
      → record_at records name ≡ record_at index.map.records name
  pub read : index.update ≢ [] → ReadsIn es index.update index.map.seen records

-- just those, in name order
pub record AreAtEnd (es : Entries) (index : MemoryIndex) (records : List IndexRecord) : Type 0 where
  pub rising : AreSorted records
  pub same : EndsWith es index records

-- so there is one such list
abbrev pub AtEndIsOne : Type 0
AtEndIsOne =
    (es : Entries) (index : MemoryIndex) (rs more : List IndexRecord)
    → AreAtEnd es index rs → AreAtEnd es index more → rs ≡ more

-- A step of the update: where it had ended nothing changes. Else the first n names leave the rest, and their records are
-- set to what the files say; where none is left, only the records that were seen stay.
pub record StepsUpdate (n : ℕ) (es : Entries) (old new : MemoryIndex) : Type 0 where
  pub rest : new.update ≡ drop n old.update
  pub ended : old.update ≡ [] → new ≡ old
  pub read : old.update ≢ []
      → ReadsSlice es (take n old.update) old.update new.update old.map new.map
  pub last : old.update ≢ [] → new.update ≡ [] → new.map.records ≡ new.map.seen
