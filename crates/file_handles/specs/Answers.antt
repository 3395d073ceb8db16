-- What an answer says to the machine.
use Rattle.std.specs.Prelude.{Err, IfErr, None, Ok, Option, Result, Some, ◌≡◌}
use Rattle.cache_theory.specs.declared.refusal.Refusal.{Refusal}
use Rattle.cache_theory.specs.Command.{Reply}
use Rattle.cache_theory.specs.Command.Reply.{Done, Refused, NoneThere}
use Rattle.disk_theory.specs.Account.{Ending}
use Rattle.disk_theory.specs.declared.disk.DiskFault.{DiskFault}
use Rattle.disk_theory.specs.declared.disk.DiskFault.TheVariants as disk
use Rattle.file_handles.specs.declared.fault.HandleFault.{HandleFault}
use Rattle.file_handles.specs.declared.fault.HandleFault.TheVariants as fault

-- a fault of a change of the disk, here
abbrev pub fault_of : DiskFault → HandleFault
fault_of disk.Failed = fault.Disk
fault_of disk.Memory = fault.Memory

-- and of a look at it
abbrev pub look_fault_of : DiskFault → HandleFault
look_fault_of disk.Failed = fault.Read
look_fault_of disk.Memory = fault.Memory

-- the reply in a fault: the refusal, if it is one
abbrev pub reply_in : HandleFault → Option Reply
reply_in (fault.Refused r) = Some (Refused r)
reply_in fault.Read = None
reply_in fault.Disk = None
reply_in fault.Memory = None

-- the reply of a call that answers `ok`
abbrev pub done_or : {T : Type 0} → Result T HandleFault → Option Reply
done_or (Ok value) = Some Done
done_or (Err f) = reply_in f

-- the reply of a call that answers `none` where there is nothing
abbrev pub done_or_none : {T : Type 0} → Result (Option T) HandleFault → Option Reply
done_or_none (Ok (Some value)) = Some Done
done_or_none (Ok None) = Some NoneThere
done_or_none (Err f) = reply_in f

-- a refusal of this answer has P
abbrev pub OnRefused : {T : Type 0} → Result T HandleFault → (Refusal → Type 0) → Type 0
OnRefused r P = IfErr r (λ f. (refusal : Refusal) → f ≡ fault.Refused refusal → P refusal)

-- where a look failed, P
abbrev pub OnRead : {T : Type 0} → Result T HandleFault → Type 0 → Type 0
OnRead r P = IfErr r (λ f. f ≡ fault.Read → P)

-- what a fault says of the calls of the disk: a refusal comes where none failed
abbrev pub fault_ending : HandleFault → Ending
fault_ending (fault.Refused r) = Ending.NoneFailed
fault_ending fault.Read = Ending.OneFailed
fault_ending fault.Disk = Ending.OneFailed
fault_ending fault.Memory = Ending.OutOfMemory

-- what an answer says of them
abbrev pub ending : {T : Type 0} → Result T HandleFault → Ending
ending (Ok value) = Ending.NoneFailed
ending (Err f) = fault_ending f
