-- What the exit statuses say.
use Rattle.std.specs.Prelude.{Err, Ok, Result, ⊤, ◌≡◌, ◌⊎◌}
use Rattle.cache_base.specs.declared.status.Status.{Status}
use Rattle.cache_base.specs.declared.status.Status.TheVariants as status
use Rattle.cache_replies.specs.declared.verdict.Verdict.{Verdict}
use Rattle.cache_replies.specs.declared.verdict.Verdict.TheVariants as outcome
use Rattle.cache_store.specs.declared.fault.StoreFault.{StoreFault}
use Rattle.cache_store.specs.declared.fault.StoreFault.TheVariants as fault

-- the statuses with which the store was closed
abbrev pub IsClosing : Status → Type 0
IsClosing status.Done = ⊤
IsClosing status.No = ⊤
IsClosing status.Script = ⊤
IsClosing status.Source = ⊤
IsClosing status.Sink = ⊤
IsClosing status.Disk = ⊥
IsClosing status.Memory = ⊥
IsClosing status.Words = ⊥

-- the statuses of an answer that was printed whole
abbrev pub IsAnswer : Status → Type 0
IsAnswer s = (s ≡ status.Done) ⊎ (s ≡ status.No)

-- and those of which a line tells, also that of a bad script or dump
abbrev pub IsSaid : Status → Type 0
IsSaid s = IsAnswer s ⊎ (s ≡ status.Script)

-- how the program ends by the outcome of the last command
abbrev pub status_of : Verdict → Status
status_of outcome.Ok = status.Done
status_of outcome.Refused = status.No

-- the status that the commands give
abbrev pub status_in : Result Status StoreFault → Status
status_in (Ok s) = s
status_in (Err fault.Memory) = status.Memory
status_in (Err fault.Disk) = status.Disk
status_in (Err fault.Sink) = status.Sink
