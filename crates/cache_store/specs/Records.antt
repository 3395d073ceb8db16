-- What the records in memory say of the entries.
use Rattle.std.specs.Prelude.{Bool, List, Some, [], is_some, ℕ, ⊤, ◌≡◌}
use Rattle.cache_base.specs.declared.name.Name.{Name}
use Rattle.cache_replies.specs.Answers.{reply_of}
use Rattle.cache_replies.specs.declared.answered.Answered.{Answered}
use Rattle.memory_index.specs.declared.memory_index.MemoryIndex.{MemoryIndex}
use Rattle.cache_theory.specs.Command.{Command}
use Rattle.cache_theory.specs.Command.Command.{At, Dump, ElementOf, Get, GetAlt, HasEntry, HasGiven, ListRecords, MainBody, OpenKey, ReadPart, StepUpdate, UpdateState, Verify}
use Rattle.cache_theory.specs.Machine.{Machine}
use Rattle.cache_theory.specs.Step.{step}
use Rattle.cache_theory.specs.Table.{get}
use Rattle.entry_name.specs.EntryName.{file_name}
use Rattle.file_handles.specs.Effects.{once, rest_once}
use Rattle.file_handles.specs.declared.fault.Effect.{Effect}
use Rattle.index_map.specs.Known.{SameBase}
use Rattle.index_theory.specs.Ever.{Entries}
use Rattle.index_theory.specs.Scan.{scanned}
use Rattle.index_update.specs.Rest.{name_bytes}
use Rattle.record_list.specs.Lists.{record_at}
use Rattle.memory_index.specs.Records.{EndsWith, StepsUpdate, TellsOf}

-- the scan changes by what is learnt
abbrev pub ScanChanges : Effect → Entries → Entries → Type 0
ScanChanges e before now = (name : Name) → scanned now name ≡ once e (scanned before) name

-- this is learnt: the name leaves the rest, and the records go on to tell of the entries
pub record LearnsEffect (e : Effect) (old new : MemoryIndex) : Type 0 where
  pub rest : name_bytes new.update ≡ rest_once e (name_bytes old.update)
  pub base : SameBase old.map new.map
  pub tells : (before now : Entries) → ScanChanges e before now → TellsOf before old
      → TellsOf now new

-- the records are those of the machine's shelf
pub record RecordsTell (index : MemoryIndex) (m : Machine) : Type 0 where
  pub rest : m.rest ≡ name_bytes index.update
  pub tells : TellsOf (get m.shelf) index

-- a record of the key's name was seen
abbrev pub has_record : MemoryIndex → List ℕ → Bool
has_record index key = is_some (record_at index.map.seen (record { 0 = file_name key }))

-- whether there is an entry, as that tells
abbrev pub AnswersHas : List ℕ → MemoryIndex → Answered → Type 0
AnswersHas key index a =
    (m : Machine) → m.rest ≡ name_bytes index.update → reply_of a ≡ Some (step m (HasGiven key (has_record index key))).reply

-- the index in memory after a command that only looks: as before, or with the update ended or one step further, by what
-- the files say
abbrev pub KeepsRecords : Command → Entries → MemoryIndex → MemoryIndex → Type 0
KeepsRecords (At now) es old new = new ≡ old
KeepsRecords (OpenKey s key) es old new = new ≡ old
KeepsRecords (ElementOf s name) es old new = new ≡ old
KeepsRecords (ReadPart s from len) es old new = new ≡ old
KeepsRecords (Get key) es old new = new ≡ old
KeepsRecords (GetAlt key) es old new = new ≡ old
KeepsRecords (MainBody key) es old new = new ≡ old
KeepsRecords (HasEntry key) es old new = new ≡ old
KeepsRecords UpdateState es old new = new ≡ old
KeepsRecords (StepUpdate n) es old new = StepsUpdate n es old new
KeepsRecords ListRecords es old new = (new.update ≡ []) × EndsWith es old new.map.records
KeepsRecords Verify es old new = (new.update ≡ []) × EndsWith es old new.map.records
KeepsRecords Dump es old new = (new.update ≡ []) × EndsWith es old new.map.records
KeepsRecords c es old new = ⊤
