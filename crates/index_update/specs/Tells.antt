-- What the records in memory say of the entries, while an update has a rest and when it has ended.
use Rattle.std.specs.Prelude.{Contains, List, None, Option, [], ℕ, ◌≡◌, ◌≢◌}
use Rattle.cache_base.specs.declared.name.Name.{Name}
use Rattle.disk_theory.specs.Listing.{AreEntries}
use Rattle.disk_theory.specs.State.{State}
use Rattle.index_map.specs.Known.{Known, Sets}
use Rattle.index_record.specs.declared.record.IndexRecord.{IndexRecord}
use Rattle.index_theory.specs.Scan.{IsScan, TellsScan, scanned}
use Rattle.index_theory.specs.Ever.{Entries, entries_on}
use Rattle.index_update.specs.Rest.{name_bytes, without}
use Rattle.record_list.specs.Lists.{HasNames, IsByName, record_at}

-- the record that was seen of each name outside the rest is that of the entry, and there is none where no entry fits
abbrev pub TellsSeen : Entries → Known → List (List ℕ) → Type 0
TellsSeen es k rest = (name : Name) → (Contains rest name.0 → ⊥) → record_at k.seen name ≡ scanned es name

-- so is the record of each name
abbrev pub TellsAll : Entries → Known → Type 0
TellsAll es k = TellsScan es k.records

-- where that is so with the one rest it is so with the other one after
abbrev pub GoesOnTelling : Entries → Known → List Name → Known → List Name → Type 0
GoesOnTelling es old rest new left = TellsSeen es old (name_bytes rest) → TellsSeen es new (name_bytes left)

-- or it is so of all records then
abbrev pub ComesToTell : Entries → Known → List Name → Known → Type 0
ComesToTell es old rest new = TellsSeen es old (name_bytes rest) → TellsAll es new

-- the entries of all names but this one are the same
abbrev pub SameBut : Name → Entries → Entries → Type 0
SameBut name before now = (q : Name) → q ≢ name → now q.0 ≡ before q.0

-- with all entries in the rest, where no record was seen, so it is
abbrev pub BeginTells : Type 0
BeginTells = (s : State) (k : Known) (rest : List Name) → AreEntries s rest → ((name : Name) → record_at k.seen name ≡ None)
    → TellsSeen (entries_on s) k (name_bytes rest)

-- one name leaves the rest as its record is set to that of its entry, and no other entry changes
abbrev pub SeenTells : Type 0
SeenTells = (before now : Entries) (k l : Known) (name : Name) (r : Option IndexRecord) (rest : List Name) → Sets k l name r → r ≡ scanned now name
    → SameBut name before now → TellsSeen before k (name_bytes rest) → TellsSeen now l (name_bytes (without name rest))

-- once all is told, the record of one name is set to that of its entry, and no other entry changes
abbrev pub SetTellsAll : Type 0
SetTellsAll = (before now : Entries) (k l : Known) (name : Name) (r : Option IndexRecord) → Sets k l name r → r ≡ scanned now name
    → SameBut name before now → TellsAll before k → TellsAll now l

-- with an empty rest, without the records that were not seen, all is told
abbrev pub EndTells : Type 0
EndTells = (es : Entries) (k : Known) → TellsSeen es k [] → TellsAll es (record k { records = k.seen })

-- sorted by name, the records are then the scan of the entries
abbrev pub ToldIsScan : Type 0
ToldIsScan = (es : Entries) (k : Known) (sorted : List IndexRecord) → TellsAll es k → HasNames k.records → IsByName k.records sorted → IsScan es sorted
