-- What a stop amid a clearing leaves: nothing of it, its mark, or all of it.
use Rattle.std.specs.List.{AllByRecursion}
use Rattle.std.specs.Prelude.{false, List, None, Some, ℕ, ⊤, ◌≡◌, ◌⊎◌}
use Rattle.cache_base.specs.declared.name.Name.{Name}
use Rattle.cache_store.specs.Open.{KeepsTo, Represents, StartsOn, Tells}
use Rattle.memory_index.specs.Records.{AreAtEnd}
use Rattle.cache_store.specs.Session.{Session}
use Rattle.cache_theory.specs.Command.Command.{Resume}
use Rattle.cache_theory.specs.Covers.{covered_by, covers}
use Rattle.cache_theory.specs.Crash.{IsLeft}
use Rattle.cache_theory.specs.Ever.{entries}
use Rattle.cache_theory.specs.History.{History}
use Rattle.cache_theory.specs.Machine.{Machine}
use Rattle.cache_theory.specs.Marks.{Marks}
use Rattle.cache_theory.specs.Step.{step}
use Rattle.cache_theory.specs.Table.{get}
use Rattle.context_clear.specs.Mark.{IsMark, mark_bytes, mark_of}
use Rattle.disk_theory.specs.Image.{Files, IsImage}
use Rattle.disk_theory.specs.State.{State, standing}
use Rattle.disk_theory.specs.declared.place.Place.{Place}
use Rattle.disk_theory.specs.declared.place.Place.TheVariants.{Clear, Doomed, Entry}
use Rattle.entry_file.specs.EntryFile.{found}
use Rattle.entry_file.specs.Version.{Version}
use Rattle.entry_key.specs.Tags.{value_hash}
use Rattle.index_record.specs.declared.record.IndexRecord.{IndexRecord}
use Rattle.index_theory.specs.Ever.{entries_on}

-- the place is none of the doomed, which the next opening removes
abbrev pub IsLasting : Place → Type 0
IsLasting (Doomed number) = ⊥
IsLasting _ = ⊤

-- but for the doomed, a crash could leave these files before
abbrev pub CouldBeBefore : State → Files → Type 0
CouldBeBefore s image =
    (before : Files) × (IsImage s before × ((p : Place) → IsLasting p → image p ≡ before p))

-- no file stands under these names, and under each other one what stood there, or none
pub record HasNoneOf (s : State) (names : List Name) (image : Files) : Type 0 where
  pub gone : AllByRecursion (λ name. image (Entry name) ≡ None) names
  pub others : (name : Name)
      → (image (Entry name) ≡ None) ⊎ (image (Entry name) ≡ standing s (Entry name))

-- nothing of a clearing of these names is left, or the mark of its origin, or all of it
pub data IsLeftByClearing (s : State) (origin : ℕ) (names : List Name) (image : Files) : Type 0 where
  Unbegun : CouldBeBefore s image → IsLeftByClearing s origin names image
  Marked : image Clear ≡ Some (mark_bytes origin) → IsLeftByClearing s origin names image
  Whole : HasNoneOf s names image → IsLeftByClearing s origin names image

-- so it is in each image, for the names that are cleared by the records once the update has ended; the origin is
-- given by its hash
abbrev pub ClearsUnderMark : ℕ → Session → State → Type 0
ClearsUnderMark origin before t = (m : Machine) → Represents before m
    → (records : List IndexRecord)
    × (AreAtEnd (entries_on before.disk) before.open_store.index records
    × ((image : Files) → IsImage t image
    → IsLeftByClearing before.disk origin (covered_by records m origin) image))

-- a crash leaves the mark of the origin with this hash; or under each key what it could leave before; or no version of
-- the origin that is not pinned
pub data IsNoneOrAll (origin : ℕ) (s : State) (w : Marks) (image : Files) : Type 0 where
  MarkStands : image Clear ≡ Some (mark_bytes origin) → IsNoneOrAll origin s w image
  AsBefore : (before : Files) → IsLeft s w before
      → ((key : List ℕ) → found (entries image) key ≡ found (entries before) key)
      → IsNoneOrAll origin s w image
  NoneIsLeft : ((key : List ℕ) (v : Version) → found (entries image) key ≡ Some v
      → covers origin v.key v.header ≡ false) → IsNoneOrAll origin s w image

-- so it is wherever a clearing stops, where the records in memory were right
abbrev pub StoppedClearingIsNoneOrAll : Type 0
StoppedClearingIsNoneOrAll = (origin : List ℕ) (before : Session) (t : State) (h : History)
    → KeepsTo before h → Tells before h.machine → ClearsUnderMark (value_hash origin) before t
    → (image : Files) → IsImage t image → IsNoneOrAll (value_hash origin) before.disk h.marks image

-- the machine finds under each key what a crash could leave before; or no version of the origin with this hash that
-- is not pinned
pub data FindsNoneOrAll (origin : ℕ) (s : State) (w : Marks) (m : Machine) : Type 0 where
  AllAsBefore : (before : Files) → IsLeft s w before
      → ((key : List ℕ) → found (get m.shelf) key ≡ found (entries before) key)
      → FindsNoneOrAll origin s w m
  NoneFound : ((key : List ℕ) (v : Version) → found (get m.shelf) key ≡ Some v
      → covers origin v.key v.header ≡ false) → FindsNoneOrAll origin s w m

-- the mark of the origin stands, or no version of it that is not pinned
abbrev pub IsMarkedOrCleared : ℕ → Files → Type 0
IsMarkedOrCleared origin image = (image Clear ≡ Some (mark_bytes origin))
    ⊎ ((key : List ℕ) (v : Version) → found (entries image) key ≡ Some v
    → covers origin v.key v.header ≡ false)

-- so it is wherever a clearing stops that is resumed, where the records in memory were right
abbrev pub StoppedResumeKeepsMark : Type 0
StoppedResumeKeepsMark = (origin : ℕ) (before : Session) (t : State) (m : Machine)
    → Represents before m → Tells before m → IsMark origin m.mark
    → ((image : Files) → IsImage before.disk image → image Clear ≡ Some (mark_bytes origin))
    → ClearsUnderMark origin before t
    → (image : Files) → IsImage t image → IsMarkedOrCleared origin image

-- a crash leaves no mark of a clearing
abbrev pub LeavesNoMark : State → Type 0
LeavesNoMark s = (image : Files) → IsImage s image → mark_of (image Clear) ≡ None

-- so it is after an opening of what a stop in a clearing leaves, once the clearing is resumed, where no mark could
-- stand before
abbrev pub ResumedClearingIsNoneOrAll : Type 0
ResumedClearingIsNoneOrAll = (origin : List ℕ) (before : Session) (t : State) (h : History)
    → KeepsTo before h → Tells before h.machine → ClearsUnderMark (value_hash origin) before t → LeavesNoMark before.disk
    → (now : ℕ) (s : State) (m : Machine) → IsImage t (standing s) → StartsOn now s m
    → FindsNoneOrAll (value_hash origin) before.disk h.marks (step m Resume).next
