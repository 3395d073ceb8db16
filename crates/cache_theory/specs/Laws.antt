-- What follows from the definitions of the machine.
use Rattle.std.specs.List.{AllByRecursion, list_any}
use Rattle.std.specs.Prelude.{Bool, List, None, [], false, if◌then◌else◌, is_some, length, map, true, ℕ, ⊤, ◌≡◌, ◌≤◌, ◌⊎◌}
use Rattle.std.specs.Str.{bytes_eq}
use Rattle.cache_base.specs.declared.name.Name.{Name}
use Rattle.cache_theory.specs.Checks.{alt_in_version}
use Rattle.cache_theory.specs.Command.{Command, Reply}
use Rattle.cache_theory.specs.Command.Command.{ClearNames, ClearOrigin, Resume, ResumeNames, Evict, EvictNames, Get, GetAlt, HasEntry, HasGiven, ListGiven, ListRecords, MainBody, Verify, VerifyRecords}
use Rattle.cache_theory.specs.Command.Reply.{Found}
use Rattle.cache_theory.specs.Covers.{cleared, cleared_by, covers_content, resumed, resumed_by}
use Rattle.cache_theory.specs.Crash.{IsSafe}
use Rattle.cache_theory.specs.Machine.{Machine, open_names, waits_for}
use Rattle.cache_theory.specs.Marks.{Marks, begun, touches}
use Rattle.cache_theory.specs.Step.{after, all_doomed, alt_reply_of, evicted, fits_there, main_reply_of, step, unmarked, update_ended}
use Rattle.cache_theory.specs.Table.{IsTable, get}
use Rattle.disk_theory.specs.State.{State}
use Rattle.context_clear.specs.Covered.{covers_record}
use Rattle.entry_file.specs.EntryFile.{file_meta, fits}
use Rattle.entry_name.specs.EntryName.{file_name}
use Rattle.evictor.specs.Evict.{may_evict, total_kb}
use Rattle.index_record.specs.Filling.{record_of_meta}
use Rattle.index_theory.specs.Scan.{scan, scanned}
use Rattle.context_clear.specs.Mark.{mark_of}

-- the shelf stays a table, whatever commands come
abbrev pub ShelfStaysTable : Type 0
ShelfStaysTable = (m : Machine) (cs : List Command) → IsTable m.shelf → IsTable (after m cs).shelf

-- the update had to read the name before as well, and the shelf has there what it had
pub record IsUnread (m next : Machine) (name : List ℕ) : Type 0 where
  pub waited : waits_for m name ≡ true
  pub shelved : get next.shelf name ≡ get m.shelf name

-- so it is at each step of each name that the update has still to read
abbrev pub ChangesLeaveRest : Type 0
ChangesLeaveRest = (m : Machine) (c : Command) (name : List ℕ)
    → waits_for (step m c).next name ≡ true → IsUnread m (step m c).next name

-- what stands under a name changes only where the command touches the name
abbrev pub ChangesAreTouched : Type 0
ChangesAreTouched = (m : Machine) (c : Command) (name : List ℕ) → list_any (bytes_eq name) (touches m c) ≡ false
    → get (step m c).next.shelf name ≡ get m.shelf name

-- a name has an entry that fits exactly where the scan has a record of it
abbrev pub EntriesHaveRecords : Type 0
EntriesHaveRecords = (m : Machine) (name : Name)
    → is_some (scanned (get m.shelf) name) ≡ fits_there name.0 (get m.shelf name.0)

-- the name is one of these
abbrev pub is_among : List ℕ → List Name → Bool
is_among name names = list_any (bytes_eq name) (map (λ n. n.0) names)

-- what stands under these names is off the shelf, and the update has ended
pub record AreLost (m next : Machine) (names : List Name) : Type 0 where
  pub shelf : (name : List ℕ)
      → get next.shelf name ≡ (if is_among name names then None else get m.shelf name)
  pub rest : next.rest ≡ []
  pub slots : next.slots ≡ m.slots
  pub moment : next.moment ≡ m.moment

-- so it is where the update ends, and what stands under these names is doomed
abbrev pub DoomedAreLost : Type 0
DoomedAreLost = (m : Machine) (names : List Name) → AreLost m (all_doomed (update_ended m) names) names

-- and where none of them is in use, the rest of the machine is unchanged
pub record AreTakenOff (m next : Machine) (names : List Name) : Type 0 where
  pub lost : AreLost m next names
  pub objects : next.objects ≡ m.objects
  pub users : (name : List ℕ) → get next.in_use name ≡ get m.in_use name

-- the update ends, and what stands under names that are not in use is doomed: so they are taken off
abbrev pub UnusedAreTakenOff : Type 0
UnusedAreTakenOff = (m : Machine) (names : List Name)
    → ((name : List ℕ) → is_among name names ≡ true → get m.in_use name ≡ None)
    → AreTakenOff m (all_doomed (update_ended m) names) names

-- eviction takes off what it evicts
abbrev pub EvictTakesOff : Type 0
EvictTakesOff = (m : Machine) (kb : ℕ) → AreTakenOff m (step m (Evict kb)).next (evicted m kb)

-- something stands under the name, and no undoomed object of it is in use
pub record MayGo (m : Machine) (name : List ℕ) : Type 0 where
  pub stands : is_some (get m.shelf name) ≡ true
  pub unused : get m.in_use name ≡ None

-- only such names are evicted
abbrev pub EvictedMayGo : Type 0
EvictedMayGo = (m : Machine) (kb : ℕ) (name : List ℕ) → is_among name (evicted m kb) ≡ true → MayGo m name

-- after an eviction all entries take at most so many KB, or each that is left is in use or pinned
abbrev pub EvictMeetsLimit : Type 0
EvictMeetsLimit = (m : Machine) (kb : ℕ) → let left = scan (step m (Evict kb)).next.shelf in
    (total_kb left ≤ kb) ⊎ AllByRecursion (λ r. may_evict (open_names m) r ≡ false) left

-- the machine's own eviction is that of its victims
abbrev pub EvictIsOfNames : Type 0
EvictIsOfNames = (m : Machine) (kb : ℕ) → (step m (Evict kb) ≡ step m (EvictNames (evicted m kb)))
    × (touches m (Evict kb) ≡ touches m (EvictNames (evicted m kb)))

-- the machine's own check is that against the scan
abbrev pub VerifyIsOfRecords : Type 0
VerifyIsOfRecords = (m : Machine) → step m Verify ≡ step m (VerifyRecords (scan m.shelf))

-- its list is that of the scan
abbrev pub ListIsOfRecords : Type 0
ListIsOfRecords = (m : Machine) → step m ListRecords ≡ step m (ListGiven (scan m.shelf))

-- an entry is there where a file fits
abbrev pub HasIsOfShelf : Type 0
HasIsOfShelf = (m : Machine) (key : List ℕ)
    → step m (HasEntry key) ≡ step m (HasGiven key (fits_there (file_name key) (get m.shelf (file_name key))))

-- the reply to a `getalt`, by that to a `get`
abbrev pub alt_reply_by : Reply → Reply
alt_reply_by (Found v) = alt_reply_of v (alt_in_version v)
alt_reply_by r = r

-- the reply to a `main`, by that to a `get`
abbrev pub main_reply_by : Reply → Reply
main_reply_by (Found v) = main_reply_of v
main_reply_by r = r

-- the two are answered so
abbrev pub AltIsOfGet : Type 0
AltIsOfGet = (m : Machine) (key : List ℕ)
    → ((step m (GetAlt key)).reply ≡ alt_reply_by (step m (Get key)).reply)
    × ((step m (MainBody key)).reply ≡ main_reply_by (step m (Get key)).reply)

-- and so they leave the machine as it is
abbrev pub AltStays : Type 0
AltStays = (m : Machine) (key : List ℕ)
    → ((step m (GetAlt key)).next ≡ m) × ((step m (MainBody key)).next ≡ m)

-- the machine's own clearing is that of its names
abbrev pub ClearIsOfNames : Type 0
ClearIsOfNames = (m : Machine) (origin : List ℕ) → (step m (ClearOrigin origin) ≡ step m (ClearNames (cleared m origin)))
    × (touches m (ClearOrigin origin) ≡ touches m (ClearNames (cleared m origin)))

-- these names are those that the records of a scan tell
abbrev pub ClearGoesByScan : Type 0
ClearGoesByScan = (m : Machine) (origin : List ℕ) → cleared m origin ≡ cleared_by (scan m.shelf) m origin

-- where a mark stands, the clearing that is resumed is that of its names
abbrev pub ResumeIsOfNames : Type 0
ResumeIsOfNames = (m : Machine) → is_some (mark_of m.mark) ≡ true
    → (step m Resume ≡ step m (ResumeNames (resumed m))) × (touches m Resume ≡ touches m (ResumeNames (resumed m)))

-- where none stands, nothing is cleared, and what else stands there goes
abbrev pub ResumeWithoutMark : Type 0
ResumeWithoutMark = (m : Machine) → mark_of m.mark ≡ None → ((step m Resume).next ≡ unmarked m) × (touches m Resume ≡ [])

-- the command leaves what stands at `clear`
abbrev pub KeepsMark : Command → Type 0
KeepsMark (ClearOrigin origin) = ⊥
KeepsMark (ClearNames names) = ⊥
KeepsMark Resume = ⊥
KeepsMark (ResumeNames names) = ⊥
KeepsMark _ = ⊤

-- so it does in each state of the machine
abbrev pub MarkStays : Type 0
MarkStays = (m : Machine) (c : Command) → KeepsMark c → (step m c).next.mark ≡ m.mark

-- after a clearing, and after one that is resumed, nothing stands there
abbrev pub NoMarkIsLeft : Type 0
NoMarkIsLeft = (m : Machine) (c : Command) → (KeepsMark c → ⊥) → (step m c).next.mark ≡ None

-- the names of the clearing that is resumed are those that the records of a scan tell
abbrev pub ResumeGoesByScan : Type 0
ResumeGoesByScan = (m : Machine) → resumed m ≡ resumed_by (scan m.shelf) m

-- the record of an entry tells whether it is covered
abbrev pub RecordTellsCovered : Type 0
RecordTellsCovered = (origin : ℕ) (name : Name) (content : List ℕ) → fits name.0 content ≡ true
    → covers_record origin (record_of_meta name (file_meta content) (length content)) ≡ covers_content origin name.0 content

-- a disk that is safe by the marks of a begun eviction of no names is so by those of the machine's own, which are more
abbrev pub BegunTouchesMore : Type 0
BegunTouchesMore = (s : State) (m : Machine) (kb : ℕ) (w : Marks) → IsSafe s (begun m (EvictNames []) w)
    → IsSafe s (begun m (Evict kb) w)
