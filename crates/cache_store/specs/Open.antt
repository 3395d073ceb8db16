-- What a store that is open stands for, and what opening and closing it promise.
use Rattle.std.specs.Prelude.{Bool, List, OnOk, Result, [], false, ℕ, ◌+◌, ◌≡◌, ◌≢◌, ◌≤◌, ◌⊎◌}
use Rattle.cache_base.specs.Names.{AreSorted}
use Rattle.cache_base.specs.declared.name.Name.{Name}
use Rattle.cache_store.specs.Faults.{ending}
use Rattle.cache_store.specs.Kept.{Matches}
use Rattle.cache_store.specs.Records.{RecordsTell}
use Rattle.cache_store.specs.Session.{Session, cache_of}
use Rattle.cache_store.specs.declared.fault.StoreFault.{StoreFault}
use Rattle.cache_theory.specs.Crash.{IsCrashSafe, IsSafe}
use Rattle.cache_theory.specs.Ever.{entries}
use Rattle.cache_theory.specs.History.{History, settled_at}
use Rattle.cache_theory.specs.Machine.{Machine, opened}
use Rattle.cache_theory.specs.Marks.{marks_of}
use Rattle.cache_theory.specs.Table.{Table}
use Rattle.disk_theory.specs.Account.{Ending}
use Rattle.disk_theory.specs.Calls.{Counts, IsBehindSync, LastFails}
use Rattle.disk_theory.specs.Image.{Files, IsImage}
use Rattle.disk_theory.specs.Listing.{AreEntries}
use Rattle.disk_theory.specs.Sound.{IsQuiet}
use Rattle.disk_theory.specs.State.{State, standing}
use Rattle.disk_theory.specs.declared.place.Place.TheVariants.{Clear, Index, Log}
use Rattle.doom_area.specs.DoomArea.{RemovesDoomed}
use Rattle.entry_file.specs.EntryFile.{found}
use Rattle.file_handles.specs.Carries.{IsShelf}
use Rattle.file_handles.specs.Closing.{IsClosed}
use Rattle.file_handles.specs.Stands.{KeepsTo as CacheKeepsTo, KeepsWhere as CacheKeepsWhere, Represents as CacheRepresents}
use Rattle.index_map.specs.Known.{BeginsAfter, Known}
use Rattle.index_theory.specs.Honest.{Honest, LeavesHonest, index_records, journal_records}
use Rattle.index_theory.specs.Start.{start_of}
use Rattle.index_theory.specs.declared.kinds.Start.{Start}
use Rattle.index_theory.specs.declared.kinds.Start.TheVariants.{Build, Ready, Update}
use Rattle.index_update.specs.Rest.{name_bytes}
use Rattle.startup_read.specs.Opening.{calls_behind, opened as opened_index}

-- the store and the disk stand for this machine
pub record Represents (now : Session) (m : Machine) : Type 0 where
  pub stands : CacheRepresents (cache_of now) m
  pub matches : Matches now m

-- there is such a machine
abbrev pub IsOpen : Session → Type 0
IsOpen now = (m : Machine) × Represents now m

-- unless the disk failed or memory ran out the store is open
abbrev pub LeavesOpen : {T : Type 0} → Result T StoreFault → Session → Type 0
LeavesOpen answer after = ending answer ≡ Ending.NoneFailed → IsOpen after

-- they stand for the machine of a history, and the disk keeps what its marks ask for
pub record KeepsTo (now : Session) (h : History) : Type 0 where
  pub stands : CacheKeepsTo (cache_of now) h
  pub matches : Matches now h.machine

-- so they do, and where a crash is spoken of the disk keeps what the marks ask for
pub record KeepsWhere (crash : Bool) (now : Session) (h : History) : Type 0 where
  pub stands : CacheKeepsWhere crash (cache_of now) h
  pub matches : Matches now h.machine

-- the records in memory are right for the machine
abbrev pub Tells : Session → Machine → Type 0
Tells now m = RecordsTell now.open_store.index m

-- ---- the opening

-- the entry files that stand are those of some shelf
abbrev pub HasShelf : State → Type 0
HasShelf s = (shelf : Table (List ℕ)) × IsShelf s shelf

-- what the update has to read at an opening: nothing where the index is trusted, and else all entries, in name order
pub record IsRest (s : State) (rest : List Name) : Type 0 where
  pub ready : start_of (standing s) ≡ Ready → rest ≡ []
  pub unready : start_of (standing s) ≢ Ready → AreEntries s rest
  pub rising : AreSorted rest

-- the machine at an opening on what stands
pub record StartsOn (now : ℕ) (s : State) (m : Machine) : Type 0 where
  pub shelf : Table (List ℕ)
  pub rest : List Name
  pub is_shelf : IsShelf s shelf
  pub is_rest : IsRest s rest
  pub is_opened : m ≡ opened now shelf (standing s Clear) (name_bytes rest)

-- with nothing pending at the call, at every exit a crash loses nothing of what stood
abbrev pub OpensSafely : ℕ → State → State → Type 0
OpensSafely now s t = (m : Machine) → StartsOn now s m → IsQuiet s → IsSafe t (marks_of m)

-- the doomed files are removed first, and then the index is opened, with its sync; nothing else is done
abbrev pub OpensInOrder : State → State → Type 0
OpensInOrder s t = (u : State) × (RemovesDoomed s u × (t ≡ opened_index u))

-- how often an opening lists the entries
abbrev pub listings : Start → ℕ
listings Ready = 0
listings Update = 1
listings Build = 1

-- how many calls of an opening follow its sync: the removal of `index.tmp` and the listing, each where it is due
abbrev pub opening_behind : State → ℕ
opening_behind s = calls_behind s + listings (start_of (standing s))

-- no more calls than these follow the sync, and what stands at `clear` is as before
pub record IsBehindOpening (s t : State) (now : Counts) : Type 0 where
  pub calls : IsBehindSync (opening_behind s) now
  pub mark : standing t Clear ≡ standing s Clear

-- How an opening failed: its last call was a change or a sync that failed; or it was a look, and nothing was synced yet,
-- or the listing failed, after the sync.
abbrev pub FailsInOpening : State → State → Counts → Counts → Type 0
FailsInOpening s t before now = LastFails now ⊎ ((now.syncs ≤ before.syncs) ⊎ IsBehindOpening s t now)

-- in each image every key is found as it was
abbrev pub KeepsFound : State → State → Type 0
KeepsFound s t =
    IsQuiet s → (image : Files) → IsImage t image → (key : List ℕ)
    → found (entries image) key ≡ found (entries (standing s)) key

-- and each image is honest, where the directory was
abbrev pub OpensHonestly : State → State → Type 0
OpensHonestly s t = IsQuiet s → Honest (standing s) → LeavesHonest t

-- after an Ok the store stands for the machine at an opening, as after an acknowledged flush, and its records are right
-- where the directory was honest
pub record Opens (now : ℕ) (s : State) (after : Session) : Type 0 where
  pub keeps : (m : Machine) → StartsOn now s m → KeepsTo after (settled_at m)
  pub tells : (m : Machine) → StartsOn now s m → Honest (standing s) → Tells after m

-- the records that a store begins with: where the index is trusted those of it with its journal applied, whatever the
-- entries are; and where it cannot be read there is no base
pub record BeginsOn (files : Files) (map : Known) : Type 0 where
  pub ready : start_of files ≡ Ready
      → BeginsAfter (index_records (files Index)) (journal_records (files Log)) map
  pub build : start_of files ≡ Build → map.has_base ≡ false

-- ---- the closing

-- the directory is honest, and where the update has ended its index is trusted
pub record IsHonest (s : State) (m : Machine) : Type 0 where
  pub honest : Honest (standing s)
  pub trusted : m.rest ≡ [] → start_of (standing s) ≡ Ready

-- nothing is pending, the entries are those of the shelf, no doomed file stands, and the mark of a clearing is the
-- machine's
pub record IsShut (t : State) (m : Machine) : Type 0 where
  pub quiet : IsQuiet t
  pub closed : IsClosed (standing t) m
  pub mark : standing t Clear ≡ m.mark

-- whatever the history, a crash loses no more than its marks allow
abbrev pub ClosesSafely : Session → State → Type 0
ClosesSafely before t = (h : History) → KeepsTo before h → IsCrashSafe t h.marks

-- the store is closed, whatever machine it stands for, and whatever history the disk keeps to
pub record Closes (answer : Result (Unit {0}) StoreFault) (before : Session) (t : State)
    : Type 0 where
  pub shut : (m : Machine) → Represents before m → OnOk answer (IsShut t m)
  pub crash : (h : History) → KeepsTo before h → IsSafe t h.marks

-- where the records were right each image is honest, and after an Ok the directory is
pub record ClosesHonestly (answer : Result (Unit {0}) StoreFault) (before : Session) (t : State)
    : Type 0 where
  pub images : (m : Machine) → Represents before m → Tells before m → LeavesHonest t
  pub honest : (m : Machine) → Represents before m → Tells before m → OnOk answer (IsHonest t m)
