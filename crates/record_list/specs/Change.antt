-- What an index and a journal stand for together, and what a journal has to say.
use Rattle.std.specs.List.{AllByRecursion}
use Rattle.std.specs.Prelude.{Bool, List, None, Option, Some, false, if◌then◌else◌, ◌&&◌, ◌==◌, ◌≡◌}
use Rattle.cache_base.specs.declared.name.Name.{Name}
use Rattle.index_record.specs.Record.{is_removed, removed_record}
use Rattle.index_record.specs.declared.record.IndexRecord.{IndexRecord}
use Rattle.record_list.specs.Lists.{AreSorted, record_at, same_name}

-- a record of a journal as it stands in the index: a removed one does not
abbrev pub kept : IndexRecord → Option IndexRecord
kept j = if is_removed j then None else Some j

-- the record of a name: that of the journal where it has the name, else that of the index
abbrev pub journal_or : Option IndexRecord → Option IndexRecord → Option IndexRecord
journal_or None r = r
journal_or (Some j) r = kept j

-- the record of a name after the journal is applied to the index
abbrev pub applied : List IndexRecord → List IndexRecord → Name → Option IndexRecord
applied rs js name = journal_or (record_at js name) (record_at rs name)

-- the list is the journal applied to the index, by rising names
pub record IsApplied (rs js out : List IndexRecord) : Type 0 where
  pub rising : AreSorted out
  pub same : (name : Name) → record_at out name ≡ applied rs js name

-- whether two records agree in each field
abbrev pub record_eq : IndexRecord → IndexRecord → Bool
record_eq r s = same_name r.name s.name && r.frecency == s.frecency && r.origin == s.origin
    && r.on_start == s.on_start && r.on_stop == s.on_stop && r.content == s.content && r.flags == s.flags

-- what a journal has to say of a name whose record was `old` and is `new`: nothing where they agree
abbrev pub change : Name → Option IndexRecord → Option IndexRecord → Option IndexRecord
change name None None = None
change name (Some r) None = Some (removed_record name)
change name None (Some s) = Some s
change name (Some r) (Some s) = if record_eq r s then None else Some s

-- the list is what a journal has to say: the change of each name, by rising names
pub record IsDiff (base now js : List IndexRecord) : Type 0 where
  pub rising : AreSorted js
  pub same : (name : Name)
      → record_at js name ≡ change name (record_at base name) (record_at now name)

-- a list with no removed record
abbrev pub HasNoRemoved : List IndexRecord → Type 0
HasNoRemoved rs = AllByRecursion (λ r. is_removed r ≡ false) rs

-- the journal of a difference, applied to the base, gives the records now
abbrev pub DiffThenApply : Type 0
DiffThenApply = (base now js out : List IndexRecord) → HasNoRemoved now → AreSorted now
    → IsDiff base now js → IsApplied base js out → out ≡ now
