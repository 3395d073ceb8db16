-- The checks of a journal, in order, and the records of one that passes them.
use Rattle.std.specs.Prelude.{List, Option, Some, if◌then◌else◌, length, nat_le, option_map, ℕ, ◌≡◌}
use Rattle.index_journal.specs.RecordsFault.{fault_of}
use Rattle.index_journal.specs.declared.fault.JournalFault.{JournalFault}
use Rattle.index_journal.specs.declared.fault.JournalFault.TheVariants as faults
use Rattle.index_record.specs.declared.record.IndexRecord.{IndexRecord}
use Rattle.record_list.specs.Stored.{hash_size, read_as, records_fault, stored_in}

-- the fault of the first failing check: that of the length, or else of the records
abbrev pub journal_fault : List ℕ → Option JournalFault
journal_fault xs = if nat_le hash_size (length xs) then option_map fault_of (records_fault xs) else Some faults.Short

-- the fault is that of the first failing check, or says that memory ran out
abbrev pub IsFirstFault : List ℕ → JournalFault → Type 0
IsFirstFault xs faults.Memory = Unit {0}
IsFirstFault xs f = journal_fault xs ≡ Some f

-- the records
abbrev pub journal_in : List ℕ → List IndexRecord
journal_in xs = read_as (stored_in xs)
