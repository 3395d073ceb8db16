-- How the entries of an origin are cleared by the records in memory.
use Rattle.std.specs.List.{AllByRecursion, IsDistinct}
use Rattle.std.specs.Prelude.{Bool, IfOk, IsSome, IsTrue, List, None, OnOk, Option, Result, Some, false, length, not, ℕ, ⊤, ◌==◌, ◌||◌, ◌≡◌}
use Rattle.cache_base.specs.Names.{AreSorted, has_name}
use Rattle.cache_base.specs.declared.name.Name.{Name}
use Rattle.memory_index.specs.Forgetting.{AreOthers}
use Rattle.cache_store.specs.Evicting.{has_file}
use Rattle.cache_store.specs.Open.{KeepsWhere, Represents, Tells}
use Rattle.cache_store.specs.Performing.{GoesBy, HadEffect, PerformsFor}
use Rattle.memory_index.specs.Records.{AreAtEnd}
use Rattle.cache_store.specs.Session.{Session}
use Rattle.cache_store.specs.declared.fault.StoreFault.{StoreFault}
use Rattle.cache_replies.specs.declared.verdict.Verdict.{Verdict}
use Rattle.memory_index.specs.declared.memory_index.MemoryIndex.{MemoryIndex}
use Rattle.cache_theory.specs.Command.{Command}
use Rattle.cache_theory.specs.Command.Command.{ClearNames, ClearOrigin, Resume}
use Rattle.cache_theory.specs.Covers.{covered_by, covers}
use Rattle.cache_theory.specs.Crash.{IsSafe}
use Rattle.cache_theory.specs.Ever.{entries}
use Rattle.cache_theory.specs.History.{History, begun, settled_at}
use Rattle.cache_theory.specs.Machine.{Machine}
use Rattle.cache_theory.specs.Proper.{IsProper}
use Rattle.cache_theory.specs.Step.{cleared_of}
use Rattle.context_clear.specs.Mark.{mark_of}
use Rattle.disk_theory.specs.Image.{Files, IsImage}
use Rattle.disk_theory.specs.Sound.{IsQuiet}
use Rattle.disk_theory.specs.State.{State, standing}
use Rattle.disk_theory.specs.declared.place.Place.TheVariants.{Clear, Entry}
use Rattle.entry_file.specs.EntryFile.{found}
use Rattle.entry_file.specs.Version.{Version}
use Rattle.entry_key.specs.Tags.{value_hash}
use Rattle.file_handles.specs.Cache.{Cache}
use Rattle.handle_table.specs.Kept.{Kept}
use Rattle.handle_table.specs.Standing.{HandlesStand}
use Rattle.file_handles.specs.Stands.{RepresentsSome}
use Rattle.handle_table.specs.Users.{users_of}
use Rattle.index_map.specs.Known.{IsKnown, Known}
use Rattle.index_record.specs.declared.record.IndexRecord.{IndexRecord}
use Rattle.index_theory.specs.Ever.{entries_on}
use Rattle.record_list.specs.Lists.{IsByName, same_name}

-- these names a clearing of the origin with this hash takes, by the records of the map and the entries in use
pub record AreCleared (map : Known) (k : Kept) (origin : ℕ) (names : List Name) : Type 0 where
  pub records : List IndexRecord
  pub known : IsKnown map
  pub by_name : IsByName map.records records
  pub rising : AreSorted names
  pub chosen : (m : Machine) (number : ℕ → ℕ) → IsProper m → HandlesStand k m number
      → names ≡ covered_by records m origin

-- an undoomed entry of the name is in use, or the name is among these
abbrev pub is_user_or_among : Kept → List Name → Name → Bool
is_user_or_among k names name = not (users_of k name == 0) || has_name names name

-- an undoomed entry of the name is in use, or a file stands under it
abbrev pub is_used_or_stands : Kept → State → Name → Bool
is_used_or_stands k s name = not (users_of k name == 0) || has_file s name

-- where no slot uses the name, a file stands under it
abbrev pub IsHeld : Cache → Name → Type 0
IsHeld now name = users_of now.handles name ≡ 0 → IsSome (standing now.disk (Entry name))

-- the handles and the disk stand for some machine, no name stands twice, and each is in use or has a file
pub record HoldsNames (now : Cache) (names : List Name) : Type 0 where
  pub stands : RepresentsSome now
  pub distinct : IsDistinct same_name names
  pub held : AllByRecursion (IsHeld now) names

-- the records in memory after a clearing of the origin with this hash: those once the update has ended, without the
-- records of all that were cleared, whether a file stood there or not
abbrev pub LeavesUncleared : Session → ℕ → Known → Type 0
LeavesUncleared before origin map =
    (m : Machine) → Represents before m
    → (records : List IndexRecord) × (AreAtEnd (entries_on before.disk) before.open_store.index records
    × AreOthers records (covered_by records m origin) map.records)

-- no crash leaves a version of the origin with this hash that is not pinned
abbrev pub LeavesNoneOf : ℕ → State → Type 0
LeavesNoneOf origin t = (image : Files) (key : List ℕ) (v : Version) → IsImage t image
    → found (entries image) key ≡ Some v → covers origin v.key v.header ≡ false

-- so it is once a clearing had its effect and nothing is pending, where the records in memory were right
abbrev pub ClearingLeavesNone : Type 0
ClearingLeavesNone = (origin : List ℕ) (answer : Result Verdict StoreFault) (before after : Session)
    (taken now : Option (List ℕ)) (m : Machine)
    → PerformsFor (ClearOrigin origin) answer before after taken now → HadEffect answer → IsQuiet after.disk
    → Represents before m → Tells before m → LeavesNoneOf (value_hash origin) after.disk

-- for a history: the names are cleared, by a command that is answered as a flush and by one that is not
pub record ClearsNames (crash : Bool) (names : List Name) (h : History)
    (answer : Result ℕ StoreFault)
    (before after : Session) : Type 0 where
  pub safe : IsTrue crash → IsSafe after.disk (begun (ClearNames names) h).marks
  pub count : IfOk answer (λ n. n ≡ length names)
  pub settled : OnOk answer (KeepsWhere crash after (settled_at (cleared_of h.machine names)))
  pub begun_on : OnOk answer (KeepsWhere crash after (record {
    machine = cleared_of h.machine names;
    marks = (begun (ClearNames names) h).marks;
  }))
  pub tells : OnOk answer (Tells before h.machine → Tells after (cleared_of h.machine names))

-- so it is of the names that the records tell, whatever history the disk kept to
abbrev pub ClearsByRecords : ℕ → Result ℕ StoreFault → Session → Session → Type 0
ClearsByRecords origin answer before after =
    (crash : Bool) (h : History) → KeepsWhere crash before h
    → (records : List IndexRecord) × (GoesBy before h.machine records
    × ClearsNames crash (covered_by records h.machine origin) h answer before after)

-- the index in memory after a clearing is resumed, where this is the origin of the mark that stood: as before where
-- none did
abbrev pub LeavesResumed : Option ℕ → Session → MemoryIndex → Type 0
LeavesResumed None before index = index ≡ before.open_store.index
LeavesResumed (Some origin) before index = LeavesUncleared before origin index.map

-- the hash of the origin that the command clears, where this stands at `clear`
abbrev pub origin_cleared : Command → Option (List ℕ) → Option ℕ
origin_cleared (ClearOrigin origin) file = Some (value_hash origin)
origin_cleared Resume file = mark_of file
origin_cleared _ file = None

-- the command clears an origin, or resumes a clearing
abbrev pub IsClearing : Command → Type 0
IsClearing (ClearOrigin origin) = ⊤
IsClearing Resume = ⊤
IsClearing _ = ⊥

-- no file stands at `clear`
abbrev pub HasNoMark : State → Type 0
HasNoMark s = standing s Clear ≡ None
