-- Faults of the disk and of the sink, as the store's.
use Rattle.std.specs.Prelude.{Err, IsErrOf, Ok, Result, ◌≡◌, ◌≢◌, ◌⊎◌}
use Rattle.cache_base.specs.Causes.{HasCause}
use Rattle.cache_io.specs.declared.sink.Sink.{Ghosts}
use Rattle.cache_io.specs.declared.sink.SinkFault.{SinkFault}
use Rattle.cache_io.specs.declared.sink.SinkFault.TheVariants as sink
use Rattle.cache_store.specs.declared.fault.StoreFault.{StoreFault}
use Rattle.cache_store.specs.declared.fault.StoreFault.TheVariants.{Disk, Memory, Sink}
use Rattle.disk_theory.specs.Account.{Ending}
use Rattle.disk_theory.specs.declared.disk.DiskFault.{DiskFault}
use Rattle.disk_theory.specs.declared.disk.DiskFault.TheVariants as disk

-- what a fault of the disk is to the store
abbrev pub of_disk : DiskFault → StoreFault
of_disk disk.Failed = Disk
of_disk disk.Memory = Memory

-- what a fault of the sink is to it
abbrev pub of_sink : SinkFault → StoreFault
of_sink sink.Failed = Sink
of_sink sink.Memory = Memory

-- what a fault says of the calls of the disk: where the sink failed none of them did
abbrev pub fault_ending : StoreFault → Ending
fault_ending Disk = Ending.OneFailed
fault_ending Memory = Ending.OutOfMemory
fault_ending Sink = Ending.NoneFailed

-- what an answer says of them
abbrev pub ending : {T : Type 0} → Result T StoreFault → Ending
ending (Ok value) = Ending.NoneFailed
ending (Err fault) = fault_ending fault

-- the ending is that of a call before, or memory ran out after it
abbrev pub EndsAs : Ending → Ending → Type 0
EndsAs before now =
    (now ≡ before) ⊎ ((before ≡ Ending.NoneFailed) × (now ≡ Ending.OutOfMemory))

-- a fault of the sink is answered only where its count of faults rose, and otherwise the count is the same
abbrev pub AccountsForSink : {T : Type 0} {S : _} → Ghosts S → Result T StoreFault → S → S → Type 0
AccountsForSink K answer before now =
    HasCause (IsErrOf answer Sink) (K.faults before) (K.faults now)

-- the sink alone fails, unless memory runs out
pub record OnlySinkFails {T : Type 0} {S : _} (K : Ghosts S) (answer : Result T StoreFault)
    (before now : S) : Type 0 where
  pub no_disk : answer ≢ Err Disk
  pub cause : AccountsForSink K answer before now
