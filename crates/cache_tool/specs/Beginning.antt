-- What each run begins with: the store is opened, and the clearing is done that an earlier run left undone.
use Rattle.std.specs.Prelude.{List, None, Option, [], ℕ, ◌+◌, ◌∷◌, ◌≡◌, ◌≤◌, ◌⊎◌}
use Rattle.cache_base.specs.declared.name.Name.{Name}
use Rattle.cache_store.specs.Clearing.{LeavesResumed}
use Rattle.cache_store.specs.DoneFor.{AreOfShelf, DoneBy, IsOfShelf, IsResumedBy}
use Rattle.memory_index.specs.Forgetting.{AreOthers}
use Rattle.cache_store.specs.InUse.{IsSameIndex, OpensInUse}
use Rattle.cache_store.specs.Open.{BeginsOn, Opens, OpensHonestly, StartsOn, opening_behind}
use Rattle.cache_store.specs.Performing.{GoesBy}
use Rattle.cache_store.specs.Session.{Session}
use Rattle.cache_theory.specs.Command.{Command}
use Rattle.cache_theory.specs.Command.Command.{ResumeNames}
use Rattle.cache_theory.specs.Crash.{IsSafe}
use Rattle.cache_theory.specs.History.{acked, settled_at}
use Rattle.cache_theory.specs.Machine.{Machine}
use Rattle.cache_theory.specs.Marks.{marks_of}
use Rattle.cache_theory.specs.Step.{step}
use Rattle.cache_tool.specs.Clearings.{KeepsClearing}
use Rattle.cache_tool.specs.MarkLeft.{ChangesMark}
use Rattle.cache_tool.specs.Right.{LeadTo}
use Rattle.context_clear.specs.Mark.{mark_of}
use Rattle.disk_theory.specs.Calls.{Counts, IsBehindSync, LastFails}
use Rattle.disk_theory.specs.Sound.{IsQuiet}
use Rattle.disk_theory.specs.State.{State, standing}
use Rattle.disk_theory.specs.declared.place.Place.TheVariants.{Clear, Index, Log}
use Rattle.index_record.specs.declared.record.IndexRecord.{IndexRecord}
use Rattle.index_theory.specs.Honest.{Honest, index_records, journal_records}
use Rattle.index_theory.specs.Start.{start_of}
use Rattle.index_theory.specs.declared.kinds.Start.{Start}
use Rattle.index_theory.specs.declared.kinds.Start.TheVariants.{Ready}
use Rattle.record_list.specs.Change.{IsApplied}

-- the records of an index with its journal applied
abbrev pub AreIndexed : State → List IndexRecord → Type 0
AreIndexed s records = IsApplied (index_records (standing s Index)) (journal_records (standing s Log)) records

-- ---- `Resume`, the first command

-- the records by which it goes: those of all entries in an honest directory; and where the index is trusted those of it
-- with its journal applied, whatever the entries are
pub record AreAtOpening (s : State) (m : Machine) (records : List IndexRecord) : Type 0 where
  pub honest : AreOfShelf (Honest (standing s)) m records
  pub trusted : start_of (standing s) ≡ Ready → AreIndexed s records

-- this holds of what is done for it: where no mark stood it is done itself, and else by such records
abbrev pub DoneAtOpening : State → Machine → (Command → Type 0) → Type 0
DoneAtOpening s m P = (d : Command) × (IsResumedBy (AreAtOpening s m) (mark_of m.mark) m d × P d)

-- ---- the next command

-- the names that were cleared
abbrev pub names_cleared : Command → List Name
names_cleared (ResumeNames names) = names
names_cleared _ = []

-- the records by which it goes, where this was done before: those of all entries in an honest directory; and where
-- the index is trusted those of it with its journal applied, but for those of the names that were cleared
pub record AreOnResumed (s : State) (m : Machine) (d : Command) (records : List IndexRecord)
    : Type 0 where
  pub honest : AreOfShelf (Honest (standing s)) (step m d).next records
  pub trusted : start_of (standing s) ≡ Ready
      → (indexed : List IndexRecord)
      × (AreIndexed s indexed × AreOthers indexed (names_cleared d) records)

-- this holds of what is done for such a command
abbrev pub DoneOnResumed : State → Machine → Command → Command → (Command → Type 0) → Type 0
DoneOnResumed s m d c P =
    let next = (step m d).next in
    DoneBy (AreOnResumed s m d) (IsOfShelf (Honest (standing s)) next) c next P

-- ---- the call

-- for a machine: this was done for `Resume`, by what was in memory after the opening, and it is acknowledged
pub record IsResumed (first : Session) (m : Machine) (now : Session) : Type 0 where
  pub done : Command
  pub is_done : IsResumedBy (GoesBy first m) (mark_of m.mark) m done
  pub leads : LeadTo (done ∷ []) first m now (acked done (settled_at m))
  -- the records in memory are as before, but for those of the names that were cleared
  pub records : LeavesResumed (mark_of m.mark) first now.open_store.index

-- the store was opened, and so it is for each machine at the opening
pub record BeginsRun (moment : ℕ) (s : State) (now : Session) : Type 0 where
  pub first : Session
  pub opens : Opens moment s first
  pub based : OpensInUse s first.open_store.index.map first.disk
  pub begins : BeginsOn (standing s) first.open_store.index.map
  pub same : IsSameIndex s first.disk
  pub resumed : (m : Machine) → StartsOn moment s m → IsResumed first m now
  pub mark : ChangesMark [] s now.disk

-- It failed. A crash loses nothing where the opening did, and else no more than this first command allows.
pub record FailsToBegin (moment : ℕ) (s t : State) : Type 0 where
  pub images : OpensHonestly s t
  pub mark : ChangesMark [] s t
  pub clearing : KeepsClearing s t
  pub crash : (m : Machine) → StartsOn moment s m
      → (IsQuiet s → IsSafe t (marks_of m))
      ⊎ DoneAtOpening s m (λ d. IsSafe t (acked d (settled_at m)).marks)

-- No command has begun: what stands at `clear` is as at the call, and where nothing does, one sync was made at the most,
-- and behind it no more calls than an opening makes and the one look of `Resume`.
pub record IsBeforeCommands (s t : State) (before now : Counts) : Type 0 where
  pub mark : standing t Clear ≡ standing s Clear
  pub calls : standing s Clear ≡ None
      → (now.syncs ≤ before.syncs + 1) × IsBehindSync (opening_behind s + 1) now

-- How the disk failed before any command: its last call was a change or a sync that failed; or it was a look, and nothing
-- was synced yet, or no command has begun.
abbrev pub FailsBeforeCommands : State → State → Counts → Counts → Type 0
FailsBeforeCommands s t before now =
    LastFails now ⊎ ((now.syncs ≤ before.syncs) ⊎ IsBeforeCommands s t before now)

-- no entry is looked at: no mark of an origin stands, or the index is trusted
abbrev pub ReadsNoEntry : Option ℕ → Start → Type 0
ReadsNoEntry mark start = (mark ≡ None) ⊎ (start ≡ Ready)

-- so it is with these counts, over what stood at the call
abbrev pub ReadsNone : State → Counts → Counts → Type 0
ReadsNone s before now = ReadsNoEntry (mark_of (standing s Clear)) (start_of (standing s))
    → now.entry_reads ≤ before.entry_reads
