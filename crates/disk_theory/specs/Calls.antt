-- What the calls of a disk answer, and how they are counted.
use Rattle.std.specs.Prelude.{◌≡◌, ◌⊎◌, ℕ, ◌≤◌, ◌+◌, List, length, Option, Some, None, Result, Ok, Err}
use Rattle.cache_base.specs.Causes.{one_more}
use Rattle.disk_theory.specs.declared.disk.DiskFault.{DiskFault}
use Rattle.disk_theory.specs.declared.disk.DiskFault.TheVariants.{Failed, Memory}
use Rattle.disk_theory.specs.declared.place.Place.{Place}
use Rattle.disk_theory.specs.declared.place.Place.TheVariants.{Entry}

-- the first at Ok, and else the second
abbrev pub if_ok : {T X : Type 0} → Result T DiskFault → X → X → X
if_ok (Ok value) new old = new
if_ok (Err fault) new old = old

-- the second where memory ran out, and else the first: a change that fails is recorded all the same
abbrev pub if_done : {T X : Type 0} → Result T DiskFault → X → X → X
if_done (Ok value) new old = new
if_done (Err Failed) new old = new
if_done (Err Memory) new old = old

-- the numbers of the last change and of the last sync that failed, or 0 where none did
pub record LastFailed : Type 0 where
  pub change : ℕ
  pub sync : ℕ

-- what a disk has counted of its calls
pub record Counts : Type 0 where
  -- the calls so far
  pub calls : ℕ
  -- which of them that were to change or sync something failed last
  pub failed : LastFailed
  -- the number of the last look that failed, or 0 where none did
  pub failed_look : ℕ
  -- the calls so far that look at an entry's place without changing it
  pub entry_reads : ℕ
  -- the syncs so far, those that failed too
  pub syncs : ℕ
  -- the number of the last one, or 0 where none was made
  pub last_sync : ℕ

-- the counts after one call more
abbrev pub counted : Counts → Counts
counted c = record c { calls = one_more c.calls }

-- no call was made, and none failed
abbrev pub no_counts : Counts
no_counts = record {
  calls = 0;
  failed = record { change = 0; sync = 0 };
  failed_look = 0;
  entry_reads = 0;
  syncs = 0;
  last_sync = 0;
}

-- the number of the last look that failed, after one more with this answer and number
abbrev pub last_look : {T : Type 0} → Result T DiskFault → ℕ → ℕ → ℕ
last_look (Err Failed) number before = number
last_look _ number before = before

-- after a look with this answer
abbrev pub counted_look : {T : Type 0} → Result T DiskFault → Counts → Counts
counted_look answer c = record c { calls = one_more c.calls; failed_look = last_look answer (one_more c.calls) c.failed_look }

-- after a change with this answer
abbrev pub counted_change : {T : Type 0} → Result T DiskFault → Counts → Counts
counted_change (Err Failed) c = record c { calls = one_more c.calls; failed = record (c.failed) { change = one_more c.calls } }
counted_change _ c = counted c

-- the numbers of the last change and of the last sync that failed, after a sync with this answer and number
abbrev pub failed_sync : {T : Type 0} → Result T DiskFault → ℕ → LastFailed → LastFailed
failed_sync (Err Failed) number before = record before { sync = number }
failed_sync _ number before = before

-- after a sync with this answer
abbrev pub counted_sync : {T : Type 0} → Result T DiskFault → Counts → Counts
counted_sync answer c = record c {
  calls = one_more c.calls;
  failed = failed_sync answer (one_more c.calls) c.failed;
  syncs = one_more c.syncs;
  last_sync = one_more c.calls;
}

-- after a look at a place
abbrev pub counted_read : {T : Type 0} → Result T DiskFault → Place → Counts → Counts
counted_read answer (Entry name) c = record (counted_look answer c) { entry_reads = one_more c.entry_reads }
counted_read answer _ c = counted_look answer c

-- the last call was a change or a sync that failed
abbrev pub LastFails : Counts → Type 0
LastFails c = (c.failed.change ≡ c.calls) ⊎ (c.failed.sync ≡ c.calls)

-- it was a look that failed
abbrev pub LastLookFails : Counts → Type 0
LastLookFails c = c.failed_look ≡ c.calls

-- it failed, whatever it was
abbrev pub LastCallFails : Counts → Type 0
LastCallFails c = LastFails c ⊎ LastLookFails c

-- at most so many calls follow the last sync
abbrev pub IsBehindSync : ℕ → Counts → Type 0
IsBehindSync most c = c.calls ≤ c.last_sync + most

-- the last call was a change that failed, and nothing else failed since; or a sync, likewise
abbrev pub FailsLast : LastFailed → Counts → Type 0
FailsLast before now =
    (now.failed ≡ record before { change = now.calls }) ⊎ (now.failed ≡ record before { sync = now.calls })

-- no change and no sync failed since, or the last call alone did
abbrev pub StopsAtFault : Counts → Counts → Type 0
StopsAtFault before now = (now.failed ≡ before.failed) ⊎ FailsLast before.failed now

-- a file stands there, and a write may begin at `from`
abbrev pub MayWriteAt : Option (List ℕ) → ℕ → Type 0
MayWriteAt None from = ⊥
MayWriteAt (Some content) from = from ≤ length content

-- a file stands there, and has so many bytes from the offset on
abbrev pub HoldsPart : Option (List ℕ) → ℕ → ℕ → Type 0
HoldsPart None from len = ⊥
HoldsPart (Some content) from len = from + len ≤ length content
