-- The faults of records, as faults of a journal.
use Rattle.index_journal.specs.declared.fault.JournalFault.{JournalFault}
use Rattle.index_journal.specs.declared.fault.JournalFault.TheVariants.{Hash, Length, Memory, Repeated}
use Rattle.record_list.specs.declared.fault.RecordsFault.{RecordsFault}
use Rattle.record_list.specs.declared.fault.RecordsFault.TheVariants as faults

-- what is wrong with the records is wrong with the journal
abbrev pub fault_of : RecordsFault → JournalFault
fault_of faults.Length = Length
fault_of faults.Hash = Hash
fault_of faults.Repeated = Repeated
fault_of faults.Memory = Memory
