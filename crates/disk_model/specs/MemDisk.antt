-- A disk in memory: its state, its counts and its plan of faults.
use Rattle.std.specs.Prelude.{◌≡◌, ◌⊎◌, ℕ, ◌<◌, Bool, Err, List, Ok, Result, Any, if◌then◌else◌}
use Rattle.cache_base.specs.Causes.{one_more}
use Rattle.disk_theory.specs.State.{State}
use Rattle.disk_theory.specs.Calls.{Counts}
use Rattle.disk_model.specs.MemTable.{state_of}
use Rattle.disk_theory.specs.declared.disk.DiskFault.{DiskFault}
use Rattle.disk_theory.specs.declared.disk.DiskFault.TheVariants.{Failed}
use Rattle.disk_model.specs.declared.mem_disk.MemDisk.{MemDisk}

-- the state of a disk in memory, which is that of its table
abbrev pub state_in : MemDisk → State
state_in d = state_of d.table

-- what it has counted of its calls
abbrev pub counts_in : MemDisk → Counts
counts_in d = record {
  calls = d.calls;
  failed = record { change = d.failed_change; sync = d.failed_sync };
  failed_look = d.failed_look;
  entry_reads = d.entry_reads;
  syncs = d.syncs;
  last_sync = d.last_sync;
}

-- how many calls failed
abbrev pub faults_in : MemDisk → ℕ
faults_in d = d.faults

-- each call above this number fails
abbrev pub stop_in : MemDisk → ℕ
stop_in d = d.stop

-- so do the calls of these numbers
abbrev pub planned_in : MemDisk → List ℕ
planned_in d = d.planned

-- what a look answers that is to fail or not
abbrev pub look_answer : Bool → Result (Unit {0}) DiskFault
look_answer fails = if fails then Err Failed else Ok tt

-- the next call is to fail
abbrev pub FailsNext : MemDisk → Type 0
FailsNext d = (stop_in d < one_more d.calls) ⊎ Any (λ number. number ≡ one_more d.calls) (planned_in d)
