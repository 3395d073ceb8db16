-- What a call promises of the command that it performs, in parts. In each of them `c` is the command and `answer`
-- its result; `old` and `new` are the store before it and after it, `before` and `now` the disk, `from` and `to` the
-- sink.
use Rattle.std.specs.Prelude.{Err, IfOk, IfSome, IsSome, IsTrue, List, None, Ok, OnErr, OnOk, Result, [], true, ℕ, ◌≡◌, ◌≢◌}
use Rattle.cache_io.specs.declared.sink.Sink.{Ghosts as OfSink}
use Rattle.cache_store.specs.AtClear.{ChangesAtClear, ClearsInOrder}
use Rattle.cache_store.specs.Clearing.{HasNoMark, IsClearing, LeavesResumed, LeavesUncleared, origin_cleared}
use Rattle.cache_store.specs.Evicting.{IsEviction, LeavesOthers, LooksBeforeChanges}
use Rattle.cache_store.specs.Faulting.{LooksFirst}
use Rattle.cache_store.specs.Faults.{AccountsForSink, ending}
use Rattle.cache_store.specs.InMemory.{CutsPlainLine, RepliesInMemory}
use Rattle.cache_store.specs.InUse.{SparesIndex}
use Rattle.cache_store.specs.IndexCalls.{Flushes, IsFresh, IsWritten, LooksOnceAt, MakesNoCall, NeverSyncs, OnlyLooks, ReadsEntriesOf, Rebuilds, SyncsAll, names_read}
use Rattle.cache_store.specs.Open.{LeavesOpen}
use Rattle.cache_store.specs.Performing.{HadEffect, PerformsFor}
use Rattle.cache_replies.specs.Printed.{HasBadKey, Prints, is_plain}
use Rattle.cache_store.specs.Reads.{AreHeld, LastIsFirst, LeavesChunks, PutsChunks}
use Rattle.cache_store.specs.Records.{KeepsRecords}
use Rattle.cache_replies.specs.Saying.{TakesMore}
use Rattle.cache_store.specs.Session.{open_of, session}
use Rattle.cache_store.specs.StoppedClearing.{ClearsUnderMark}
use Rattle.cache_store.specs.Syncs.{syncs_of}
use Rattle.cache_store.specs.Verifying.{PrintsFound}
use Rattle.cache_store.specs.declared.fault.StoreFault.{StoreFault}
use Rattle.cache_store.specs.declared.fault.StoreFault.TheVariants as fault
use Rattle.cache_replies.specs.declared.verdict.Verdict.{Verdict}
use Rattle.cache_replies.specs.declared.verdict.Verdict.TheVariants as verdict
use Rattle.cache_store.specs.declared.store.Store.{Store}
use Rattle.cache_theory.specs.Command.{Command}
use Rattle.cache_theory.specs.Command.Command.{Doom, Evict, Flush, PutAlt, ReadPart, Rebuild, Resume, Verify}
use Rattle.context_clear.specs.Mark.{mark_of}
use Rattle.disk_theory.specs.Account.{Accounts, Looks, SyncsAtMost}
use Rattle.disk_theory.specs.Sound.{IsQuiet}
use Rattle.disk_theory.specs.State.{standing}
use Rattle.disk_theory.specs.Told.{Told}
use Rattle.disk_theory.specs.declared.disk.Disk.{Ghosts as OfDisk}
use Rattle.disk_theory.specs.declared.place.Place.TheVariants.{Clear}
use Rattle.file_handles.specs.Dooming.{IsUnfinishedFor, TakesEntries}
use Rattle.file_handles.specs.Unsynced.{SyncsNothing}
use Rattle.index_map.specs.Known.{SameBase}
use Rattle.index_theory.specs.Ever.{entries_on}
use Rattle.index_theory.specs.Honest.{LeavesHonest}
use Rattle.index_theory.specs.Leaves.{LeavesIndex}

-- At every exit, whatever failed.
pub record HoldsAtExit {A B : _} {T : Type 0} (D : OfDisk A) (K : OfSink B) (c : Command)
    (answer : Result T StoreFault) (old new : Store) (before now : A) (from to : B) : Type 0 where
  -- the store goes on, unless the disk failed or memory ran out, and what is printed only grows
  pub stays_open : IsTrue D.tells → LeavesOpen answer (session D new now)
  pub grows : IsTrue D.tells → TakesMore (K.taken from) (K.taken to)
  -- each image of the disk is honest
  pub honest : IsTrue D.tells → LeavesHonest (D.state now)
  -- wherever a clearing stops, a crash leaves nothing of it, or its mark, or all of it; it goes mark, entries, removal;
  -- and nothing else stands at `clear` then
  pub stopped : IfSome (origin_cleared c (standing (D.state before) Clear)) (λ origin.
      IsTrue D.tells → ClearsUnderMark origin (session D old before) (D.state now))
  pub ordered : IfSome (origin_cleared c (standing (D.state before) Clear)) (λ origin.
      Told D (ClearsInOrder origin) before now)
  pub at_clear : Told D (ChangesAtClear c) before now
  -- an eviction does nothing but take files of entries away, most commands sync nothing, and no command syncs more often than it is to
  pub takes : IsEviction c → Told D TakesEntries before now
  pub unsynced : NeverSyncs (open_of old).handles c → Told D SyncsNothing before now
  pub syncs : SyncsAtMost D (syncs_of (open_of old).handles c) before now
  -- a command that uses the index looks at an entry for no name but those that it reads
  pub looks : IfSome (names_read c (mark_of (standing (D.state before) Clear)) (open_of old).index.update)
      (λ names. ReadsEntriesOf D names before now)
  -- a `read` makes no call of the disk where all its chunks are held, nor does the dooming of an entry that is not
  -- finished; no chunk is dropped, but by a `close` those of its own entry
  pub held : (slot from len : ℕ) → c ≡ ReadPart slot from len
      → AreHeld (open_of old).handles slot from len → now ≡ before
  pub unfinished : (key : List ℕ) (place number : ℕ) → c ≡ Doom key
      → IsUnfinishedFor (open_of old).handles key place number → now ≡ before
  pub chunks : LeavesChunks c (open_of old).handles (open_of new).handles
  pub sink : AccountsForSink K answer from to

-- What it prints: what the machine replies, with what a crash leaves; and what is said of the reply on any disk.
pub record Replies {A B : _} (D : OfDisk A) (K : OfSink B) (c : Command)
    (answer : Result Verdict StoreFault) (old new : Store) (before now : A) (from to : B) : Type 0 where
  pub performs : IsTrue D.tells → PerformsFor c answer (session D old before) (session D new now)
      (K.taken from) (K.taken to)
  pub prints : IfOk answer (λ o. Prints c o (K.taken from) (K.taken to))
  pub verifies : c ≡ Verify → OnOk answer (IsTrue D.tells →
      PrintsFound (session D old before) (open_of new).index.map (K.taken from) (K.taken to))
  pub in_memory : MakesNoCall c
      → RepliesInMemory (open_of old) c answer (K.taken from) (K.taken to)
  pub cut : is_plain c ≡ true → OnErr answer (CutsPlainLine (K.taken from) (K.taken to))
  pub bad_key : HasBadKey c → answer ≢ Ok verdict.Ok
  pub wordless : c ≡ Resume → (to ≡ from) × (answer ≢ Err fault.Sink)

-- The files of the index: they are left alone and the base in memory stays, but by a `rebuild`, and by a `flush` where
-- the update has ended and not few records differ. Where it has ended, a `flush` leaves an index with all records but
-- for few; and a `rebuild` leaves one with all. Both give it the moment of the store, and then nothing is pending.
pub record LeavesIndexFiles {A : _} (D : OfDisk A) (c : Command)
    (answer : Result Verdict StoreFault) (old new : Store) (before now : A) : Type 0 where
  pub index : SparesIndex c (open_of old).index → Told D LeavesIndex before now
  pub base : SparesIndex c (open_of old).index → HadEffect answer
      → SameBase (open_of old).index.map (open_of new).index.map
  pub flushed : c ≡ Flush → OnOk answer ((open_of new).index.update ≡ []
      → IsFresh (open_of new).index.map)
  pub flushes : c ≡ Flush → HadEffect answer
      → Told D (Flushes (open_of old).index (open_of old).moment) before now
  pub rebuilt : c ≡ Rebuild → OnOk answer (IsWritten (open_of new).index.map)
  pub rebuilds : c ≡ Rebuild → HadEffect answer
      → Told D (Rebuilds (open_of new).index.map (open_of old).moment) before now
  pub quiet : SyncsAll c → HadEffect answer → IsTrue D.tells → IsQuiet (D.state now)

-- What an eviction or a clearing leaves: the records of all others; and a clearing, also one that is resumed, no mark.
pub record LeavesTheOthers {A : _} (D : OfDisk A) (c : Command)
    (answer : Result Verdict StoreFault) (old new : Store) (before now : A) : Type 0 where
  pub evicts : (kb : ℕ) → c ≡ Evict kb → HadEffect answer → IsTrue D.tells
      → LeavesOthers (session D old before) kb (open_of new).index.map
  pub clears : IfSome (origin_cleared c (standing (D.state before) Clear)) (λ origin.
      HadEffect answer → IsTrue D.tells
      → LeavesUncleared (session D old before) origin (open_of new).index.map)
  pub unmarked : IsClearing c → HadEffect answer → IsTrue D.tells → HasNoMark (D.state now)
  pub resumes : c ≡ Resume → HadEffect answer → IsTrue D.tells
      → LeavesResumed (mark_of (standing (D.state before) Clear)) (session D old before) (open_of new).index
  pub synced : c ≡ Resume → HadEffect answer → IsTrue D.tells
      → IsSome (mark_of (standing (D.state before) Clear)) → IsQuiet (D.state now)

-- What is in memory then: the records after a command that only looks; the chunk that a `read` read last is the most
-- recent; and a `putalt` that is refused drops none.
pub record LeavesMemory {A : _} (D : OfDisk A) (c : Command)
    (answer : Result Verdict StoreFault) (old new : Store) (before now : A) : Type 0 where
  pub records : OnOk answer (IsTrue D.tells →
      KeepsRecords c (entries_on (D.state before)) (open_of old).index (open_of new).index)
  pub recent : (slot from len : ℕ) → c ≡ ReadPart slot from len
      → answer ≡ Ok verdict.Ok → IsTrue D.tells
      → LastIsFirst (open_of old).handles slot from len (open_of new).handles
  pub alt_chunks : (slot : ℕ) (kind bytes : List ℕ) → c ≡ PutAlt slot kind bytes
      → IfOk answer (λ o. PutsChunks o slot (open_of old).handles (open_of new).handles)

-- Its calls of the disk: some commands make none, and some only look at it. An eviction looks at it only before its
-- first removal, and `Resume` before its first change; where no mark stands it looks once. Faults are accounted for.
pub record MakesCalls {A : _} (D : OfDisk A) (c : Command)
    (answer : Result Verdict StoreFault) (old : Store) (before now : A) : Type 0 where
  pub idle : MakesNoCall c → now ≡ before
  pub looking : OnlyLooks c → Looks D (ending answer) before now
  pub looks_first : IsEviction c → LooksBeforeChanges D (ending answer) before now
  pub resumes_first : c ≡ Resume → LooksFirst D (ending answer) before now
  pub once : c ≡ Resume → IsTrue D.tells → standing (D.state before) Clear ≡ None
      → LooksOnceAt D Clear before now
  pub account : Accounts D (ending answer) (syncs_of (open_of old).handles c) before now

-- What holds of a command that was performed.
pub record PerformsCommand {A B : _} (D : OfDisk A) (K : OfSink B) (c : Command)
    (answer : Result Verdict StoreFault) (old new : Store) (before now : A) (from to : B) : Type 0 where
  pub reply : Replies D K c answer old new before now from to
  pub files : LeavesIndexFiles D c answer old new before now
  pub others : LeavesTheOthers D c answer old new before now
  pub memory : LeavesMemory D c answer old new before now
  pub calls : MakesCalls D c answer old before now
