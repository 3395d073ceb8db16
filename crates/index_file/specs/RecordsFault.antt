-- The faults of records, as faults of an index.
use Rattle.index_file.specs.declared.fault.IndexFault.{IndexFault}
use Rattle.index_file.specs.declared.fault.IndexFault.TheVariants.{Hash, Length, Memory, Repeated}
use Rattle.record_list.specs.declared.fault.RecordsFault.{RecordsFault}
use Rattle.record_list.specs.declared.fault.RecordsFault.TheVariants as faults

-- what is wrong with the records is wrong with the index
abbrev pub fault_of : RecordsFault → IndexFault
fault_of faults.Length = Length
fault_of faults.Hash = Hash
fault_of faults.Repeated = Repeated
fault_of faults.Memory = Memory
