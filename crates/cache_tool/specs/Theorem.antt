-- The theorem on one page: six laws, and one of a `put` that stops. Each follows from what `run` ensures by its clause
-- `performs`, and by nothing else of it.
use Rattle.std.specs.Io.KnownBytes.{Appends}
use Rattle.std.specs.Prelude.{IfSome, IsSome, IsSomeAnd, List, None, Some, [], length, slice_get, suc, false, true, ℕ, ◌∷◌, ◌<◌, ◌≡◌, ◌^◌, ◌⊎◌}
use Rattle.cache_base.specs.Bytes.{AreBytes}
use Rattle.cache_base.specs.declared.status.Status.{Status}
use Rattle.cache_base.specs.declared.status.Status.TheVariants as status
use Rattle.cache_store.specs.Open.{StartsOn}
use Rattle.cache_theory.specs.Cleared.{IsClearedAt, IsCovered}
use Rattle.cache_theory.specs.Command.{Command}
use Rattle.cache_theory.specs.Command.Command.{ClearOrigin, Get, Resume}
use Rattle.cache_theory.specs.Covers.{covers}
use Rattle.cache_theory.specs.Crash.{NoChance}
use Rattle.cache_theory.specs.Faulted.{Faulted, faulted}
use Rattle.cache_theory.specs.Machine.{Machine}
use Rattle.cache_theory.specs.Marks.{rewritten}
use Rattle.cache_theory.specs.Session.{marks_between}
use Rattle.cache_theory.specs.Step.{after, step}
use Rattle.cache_theory.specs.Table.{get}
use Rattle.cache_theory.specs.Text.{CommandsIn, version_text}
use Rattle.cache_theory.specs.Wording.{IsLastSettled, IsRewrittenIn, IsTouchedIn, IsWrittenIn, state_at}
use Rattle.cache_tool.specs.ByVerb.{Performs}
use Rattle.cache_tool.specs.Clearings.{LeavesNoneOrAll}
use Rattle.cache_tool.specs.SameAsScript.{acked_in, begun_in}
use Rattle.cache_tool.specs.Statuses.{IsAnswer, IsClosing}
use Rattle.cache_tool.specs.Verbs.{marks_behind}
use Rattle.cache_tool.specs.Words.{Asked}
use Rattle.cache_tool.specs.World.{World}
use Rattle.context_clear.specs.Mark.{mark_of}
use Rattle.disk_theory.specs.Image.{Files, IsImage}
use Rattle.disk_theory.specs.Sound.{IsQuiet}
use Rattle.disk_theory.specs.State.{State, standing}
use Rattle.disk_theory.specs.declared.place.Place.TheVariants.{Clear, Index, Log}
use Rattle.entry_file.specs.EntryFile.{found}
use Rattle.entry_file.specs.Version.{Version}
use Rattle.entry_name.specs.EntryName.{file_name}
use Rattle.index_record.specs.declared.record.IndexRecord.{IndexRecord}
use Rattle.index_theory.specs.Ever.{entries, entry_place}
use Rattle.index_theory.specs.Honest.{Honest, index_records, journal_records}
use Rattle.index_theory.specs.Scan.{IsScan}
use Rattle.index_theory.specs.Start.{start_of}
use Rattle.index_theory.specs.declared.kinds.Start.TheVariants.{Ready}
use Rattle.record_list.specs.Change.{IsApplied}

-- ---- a call of `run`, with any status: the machine may have stopped within any call of the disk

-- the moment of the words
abbrev pub moment_of : Asked → ℕ
moment_of (Asked.Run now) = now
moment_of (Asked.Put now key) = now
moment_of (Asked.One now c) = now
moment_of (Asked.Fill now count first) = now
moment_of (Asked.Load now) = now

-- `run` was called with these words on one world and left another, and m is the machine at the opening
pub record Call (asked : Asked) (m : Machine) (ended : Status) (before now : World) : Type 0 where
  pub performs : Performs (Some asked) ended before now
  pub opened : StartsOn (moment_of asked) before.disk m
  pub small : moment_of asked < 2 ^ 32

-- so it was, with nothing pending before, and an index that was correct if it was trusted
pub record CleanCall (asked : Asked) (m : Machine) (ended : Status) (before now : World) : Type 0 where
  pub call : Call asked m ended before now
  pub source : IsSomeAnd before.source.left AreBytes
  pub quiet : IsQuiet before.disk
  pub honest : Honest (standing before.disk)

-- ---- the script of a `run`

-- a call with the word `run`: these are the commands of the script, and this was printed
pub record ScriptCall (m : Machine) (cs : List Command) (out : List ℕ) (before now : World)
    : Type 0 where
  pub moment : ℕ
  pub ended : Status
  pub clean : CleanCall (Asked.Run moment) m ended before now
  pub spelled : IsSomeAnd before.source.left (λ bytes. CommandsIn bytes cs)
  pub sink : IsSome before.taken
  pub printed : Appends before.taken now.taken out

module _ (m : Machine) (cs : List Command) (out : List ℕ) where
  -- what was printed tells how many commands are answered, and which of them by the line `fault`
  abbrev pub told : Faulted
  told = faulted (step m Resume).next cs out

  -- `Resume`, with which each run begins, then the commands that are answered, and one more, which may have begun; but
  -- for those that are answered `fault`
  abbrev pub begun : List Command
  begun = begun_in cs told.faults told.answered

  -- so many of these are acknowledged
  abbrev pub acked : ℕ
  acked = acked_in cs told.faults told.answered

-- a script stopped at any point, and a crash left these files; the first f of the commands end in the last flush or
-- clearing that is acknowledged, or f is 0
pub record StoppedScript (m : Machine) (cs : List Command) (out : List ℕ) (f : ℕ) (image : Files)
    (before now : World) : Type 0 where
  pub script : ScriptCall m cs out before now
  pub last : IsLastSettled (begun m cs out) (acked m cs out) f
  pub left : IsImage now.disk image

-- no half-written file of the name happens to match its hashes: no metadata were rewritten in place under it since, or
-- none fits by chance
abbrev pub NoChanceIn : Machine → List Command → ℕ → World → Files → List ℕ → Type 0
NoChanceIn m done f now image name =
    ¬ (IsRewrittenIn m done f (length done) name) ⊎ NoChance now.disk image name

-- 1. An entry that was not touched since the last acknowledged flush or clearing is intact.
abbrev pub UntouchedIsIntact : Type 0
UntouchedIsIntact = (m : Machine) (cs : List Command) (out : List ℕ) (f : ℕ) (image : Files)
    (before now : World) → StoppedScript m cs out f image before now
    → (key : List ℕ) → let done = begun m cs out in
    ¬ (IsTouchedIn m done f (length done) (file_name key))
    → found (entries image) key ≡ found (get (state_at m done f).shelf) key

-- one complete version of the key, its body and metadata together: the one of that flush or clearing, or a later one
pub record IsOneVersion (m : Machine) (done : List Command) (f : ℕ) (key : List ℕ) (v : Version)
    : Type 0 where
  pub of_key : v.key ≡ key
  pub current : (found (get (state_at m done f).shelf) key ≡ Some v)
      ⊎ IsWrittenIn m done f (length done) (file_name key) v

-- 2. A touched one is gone, or is one complete version: the one of that flush or clearing, or a later one.
abbrev pub TouchedIsGoneOrWhole : Type 0
TouchedIsGoneOrWhole = (m : Machine) (cs : List Command) (out : List ℕ) (f : ℕ) (image : Files)
    (before now : World) → StoppedScript m cs out f image before now
    → (key : List ℕ) (v : Version) → let done = begun m cs out in
    NoChanceIn m done f now image (file_name key)
    → found (entries image) key ≡ Some v → IsOneVersion m done f key v

-- 3. What an acknowledged clearing took does not come back: what is found of the origin was written after it.
abbrev pub ClearedStaysGone : Type 0
ClearedStaysGone = (m : Machine) (cs : List Command) (out : List ℕ) (f : ℕ) (image : Files)
    (before now : World) → StoppedScript m cs out f image before now
    → (key : List ℕ) (v : Version) → let done = begun m cs out in
    NoChanceIn m done f now image (file_name key) → found (entries image) key ≡ Some v
    → (origin : List ℕ) (at : ℕ) → IsClearedAt done (acked m cs out) origin at
    → IsCovered origin v → IsWrittenIn m done (suc at) (length done) (file_name key) v

-- ---- a clearing that was stopped, and the index

-- 4. Where the next command of the script is a clearing, a crash leaves the mark of its origin; or under each key what
-- one could leave before it; or no version of the origin that is not pinned.
abbrev pub StoppedClearingIsNoneOrAll : Type 0
StoppedClearingIsNoneOrAll = (m : Machine) (cs : List Command) (out : List ℕ) (before now : World)
    → ScriptCall m cs out before now → let told = faulted (step m Resume).next cs out in
    (origin : List ℕ) → slice_get cs told.answered ≡ Some (ClearOrigin origin)
    → LeavesNoneOrAll origin (marks_behind m Resume cs told.faults told.answered told.answered) now.disk

-- So it is where the words are of one clearing.
abbrev pub ClearIsNoneOrAll : Type 0
ClearIsNoneOrAll = (origin : List ℕ) (moment : ℕ) (m : Machine) (ended : Status) (before now : World)
    → CleanCall (Asked.One moment (ClearOrigin origin)) m ended before now
    → LeavesNoneOrAll origin (marks_between m (Resume ∷ []) 1 1) now.disk

-- the words are of one command that writes no entry
abbrev pub WritesNone : Asked → Type 0
WritesNone (Asked.One now c) = (t : Machine) → rewritten t c ≡ None
WritesNone _ = ⊥

-- A clearing that was stopped, so that its mark stands, is done by the next run, if that closed the store: no mark is
-- left, and no entry of the origin is found that is not pinned.
abbrev pub StoppedClearingIsDone : Type 0
StoppedClearingIsDone = (asked : Asked) (m : Machine) (ended : Status) (before now : World)
    → CleanCall asked m ended before now → WritesNone asked → IsClosing ended
    → (origin : ℕ) → mark_of (standing before.disk Clear) ≡ Some origin
    → (standing now.disk Clear ≡ None)
    × ((key : List ℕ) (v : Version) → found (entries (standing now.disk)) key ≡ Some v
    → covers origin v.key v.header ≡ false)

-- So it is after a script, but for what the script itself wrote.
abbrev pub ScriptDoesStoppedClearing : Type 0
ScriptDoesStoppedClearing = (m : Machine) (cs : List Command) (out : List ℕ) (before now : World)
    → (script : ScriptCall m cs out before now) → IsClosing script.ended
    → (origin : ℕ) → mark_of (standing before.disk Clear) ≡ Some origin
    → (standing now.disk Clear ≡ None)
    × ((key : List ℕ) (v : Version) → found (entries (standing now.disk)) key ≡ Some v
    → covers origin v.key v.header ≡ true → let done = begun m cs out in
    IsWrittenIn m done 1 (length done) (file_name key) v)

-- And after a `put`, but for the key of the `put`.
abbrev pub PutDoesStoppedClearing : Type 0
PutDoesStoppedClearing = (key : List ℕ) (moment : ℕ) (m : Machine) (ended : Status) (before now : World)
    → CleanCall (Asked.Put moment key) m ended before now → AreBytes key → IsClosing ended
    → (origin : ℕ) → mark_of (standing before.disk Clear) ≡ Some origin
    → (standing now.disk Clear ≡ None)
    × ((other : List ℕ) (v : Version) → found (entries (standing now.disk)) other ≡ Some v
    → covers origin v.key v.header ≡ true → file_name other ≡ file_name key)

-- the records of the index, with its journal applied, are those of a full scan of the entries
abbrev pub IndexIsScan : Files → Type 0
IndexIsScan files = (records : List IndexRecord)
    → IsApplied (index_records (files Index)) (journal_records (files Log)) records
    → IsScan (entries files) records

-- 5. An index that is trusted agrees with the files, whatever the words were and wherever the call stopped.
abbrev pub TrustedIndexIsScan : Type 0
TrustedIndexIsScan = (asked : Asked) (m : Machine) (ended : Status) (before now : World)
    → CleanCall asked m ended before now → (image : Files) → IsImage now.disk image
    → start_of image ≡ Ready → IndexIsScan image

-- the words are of one command that ends the update of the index
abbrev pub EndsUpdate : Asked → Type 0
EndsUpdate (Asked.One now c) = (t : Machine) → (step t c).next.rest ≡ []
EndsUpdate _ = ⊥

-- And after an update the index is trusted, and agrees.
abbrev pub UpdatedIndexIsTrusted : Type 0
UpdatedIndexIsTrusted = (asked : Asked) (m : Machine) (ended : Status) (before now : World)
    → CleanCall asked m ended before now → EndsUpdate asked → IsClosing ended
    → (start_of (standing now.disk) ≡ Ready) × IndexIsScan (standing now.disk)

-- So it is after a script that ended with 0 and the update with it.
abbrev pub ScriptUpdatesIndex : Type 0
ScriptUpdatesIndex = (m : Machine) (cs : List Command) (out : List ℕ) (before now : World)
    → (script : ScriptCall m cs out before now) → script.ended ≡ status.Done
    → (after m (begun m cs out)).rest ≡ []
    → (start_of (standing now.disk) ≡ Ready) × IndexIsScan (standing now.disk)

-- ---- a `put`, and a `get` after it

-- nothing touched the key between these states: the same file stands under its name, and no clearing was stopped
pub record IsLeftAlone (key : List ℕ) (was is : State) : Type 0 where
  pub entry : standing is (entry_place (file_name key)) ≡ standing was (entry_place (file_name key))
  pub clear : standing is Clear ≡ standing was Clear

-- a `put` of this body ended with 0, and a later `get` of the key with this status
pub record PutThenGet (key body : List ℕ) (ended : Status) (w x y z : World) : Type 0 where
  pub now : ℕ
  pub later : ℕ
  pub opens_put : Machine
  pub opens_get : Machine
  pub put : Call (Asked.Put now key) opens_put status.Done w x
  pub given : w.source.left ≡ Some body
  pub bytes : AreBytes key × AreBytes body
  pub between : IsLeftAlone key x.disk y.disk
  pub got : Call (Asked.One later (Get key)) opens_get ended y z

-- 6. A `get` that is answered prints the body that was put.
abbrev pub PutIsGot : Type 0
PutIsGot = (key body : List ℕ) (ended : Status) (w x y z : World)
    → PutThenGet key body ended w x y z → IsAnswer ended
    → (ended ≡ status.Done) × ((v : Version) × ((v.key ≡ key) × ((v.body ≡ body)
    × Appends y.taken z.taken (version_text v))))

-- a `put` of this body stopped at any point, and a crash left these files; nothing was pending before, and no clearing
-- was left to be done
pub record StoppedPut (key body : List ℕ) (image : Files) (w x : World) : Type 0 where
  pub now : ℕ
  pub ended : Status
  pub opens : Machine
  pub call : Call (Asked.Put now key) opens ended w x
  pub given : w.source.left ≡ Some body
  pub bytes : AreBytes key × AreBytes body
  pub quiet : IsQuiet w.disk
  pub unmarked : mark_of (standing w.disk Clear) ≡ None
  pub left : IsImage x.disk image

-- And a `put` that stops leaves each key as it was, but for its own: that may be gone, or have the whole body.
abbrev pub PutIsAllOrNothing : Type 0
PutIsAllOrNothing = (key body : List ℕ) (image : Files) (w x : World)
    → StoppedPut key body image w x
    → (other : List ℕ) → let was = found (entries (standing w.disk)) other in
    let is = found (entries image) other in
    (is ≡ was) ⊎ ((file_name other ≡ file_name key)
    × IfSome is (λ v. (v.key ≡ key) × (v.body ≡ body)))
