-- What failed in a call, and how the source, the sink and the disk count it.
use Rattle.std.specs.Prelude.{Bool, Err, IsTrue, None, Ok, Option, Result, Some, ℕ, ◌≡◌, ◌≤◌}
use Rattle.cache_base.specs.Causes.{HasCause, Rose}
use Rattle.cache_base.specs.declared.status.Status.{Status}
use Rattle.cache_base.specs.declared.status.Status.TheVariants as status
use Rattle.cache_io.specs.declared.sink.Sink.{Ghosts as OfSink}
use Rattle.cache_io.specs.declared.source.Source.{Ghosts as OfSource}
use Rattle.cache_store.specs.declared.fault.StoreFault.{StoreFault}
use Rattle.cache_store.specs.declared.fault.StoreFault.TheVariants as fault
use Rattle.cache_tool.specs.declared.script.ScriptEnd.{ScriptEnd}
use Rattle.cache_tool.specs.declared.script.ScriptEnd.TheVariants as ended
use Rattle.disk_theory.specs.Calls.{Counts, StopsAtFault}
use Rattle.disk_theory.specs.declared.disk.Disk.{Ghosts as OfDisk}

-- what failed, if anything did
pub data Failure : Type 0 where
  NoFailure : Failure
  OfSourceCall : Failure
  OfSinkCall : Failure
  OfDiskCall : Failure
  OfMemory : Failure

-- what a fault of the store tells of
abbrev pub fault_failure : StoreFault → Failure
fault_failure fault.Disk = Failure.OfDiskCall
fault_failure fault.Sink = Failure.OfSinkCall
fault_failure fault.Memory = Failure.OfMemory

-- by how the commands of a script ended
abbrev pub ended_failure : ScriptEnd → Failure
ended_failure ended.Whole = Failure.NoFailure
ended_failure ended.Failed = Failure.OfSourceCall
ended_failure (ended.Bad number) = Failure.NoFailure

-- so where a fault of the store may have ended them
abbrev pub failure : Result ScriptEnd StoreFault → Failure
failure (Ok e) = ended_failure e
failure (Err f) = fault_failure f

-- so after one turn, after which there may be more
abbrev pub turn_failure : Result (Option ScriptEnd) StoreFault → Failure
turn_failure (Ok None) = Failure.NoFailure
turn_failure (Ok (Some e)) = ended_failure e
turn_failure (Err f) = fault_failure f

-- the status of a script tells of a source that failed
abbrev pub status_failure : Status → Failure
status_failure status.Source = Failure.OfSourceCall
status_failure _ = Failure.NoFailure

-- so where a fault of the store may have ended the script
abbrev pub script_failure : Result Status StoreFault → Failure
script_failure (Ok s) = status_failure s
script_failure (Err f) = fault_failure f

-- what is counted at a moment
pub record Tally : Type 0 where
  pub tells : Bool
  pub source : ℕ
  pub sink : ℕ
  pub disk : ℕ
  pub calls : Counts

-- what a source, a sink and a disk count now
abbrev pub tally : {A B C : _} → OfSource A → OfSink B → OfDisk C → A → B → C → Tally
tally S K D source sink disk = record {
  tells = D.tells;
  source = S.faults source;
  sink = K.faults sink;
  disk = D.faults disk;
  calls = D.counts disk;
}

-- The failures are accounted for.
pub record IsAccounted (what : Failure) (before now : Tally) : Type 0 where
  -- a failure is answered only where the count rose, and otherwise the count is the same. That of the disk rises with
  -- each answer `fault`, too
  pub source : HasCause (what ≡ Failure.OfSourceCall) before.source now.source
  pub sink : HasCause (what ≡ Failure.OfSinkCall) before.sink now.sink
  pub disk_later : before.disk ≤ now.disk
  pub disk_rose : what ≡ Failure.OfDiskCall → Rose before.disk now.disk
  -- where the disk did not fail for good and memory sufficed, no change and no sync failed
  pub went_on : ¬ (what ≡ Failure.OfDiskCall) → ¬ (what ≡ Failure.OfMemory) → IsTrue now.tells
      → now.calls.failed ≡ before.calls.failed
  -- after a change or a sync that failed no call of the disk follows
  pub stops : IsTrue now.tells → StopsAtFault before.calls now.calls
