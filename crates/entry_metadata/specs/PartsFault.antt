-- The faults of elements, as faults of a block.
use Rattle.entry_parts.specs.declared.fault.PartsFault.{PartsFault}
use Rattle.entry_parts.specs.declared.fault.PartsFault.TheVariants as parts
use Rattle.entry_metadata.specs.declared.fault.MetaFault.{MetaFault}
use Rattle.entry_metadata.specs.declared.fault.MetaFault.TheVariants.{Elements, Memory}

-- what is wrong with elements is the block's fault
abbrev pub fault_of : PartsFault → MetaFault
fault_of parts.BadName = Elements
fault_of parts.BadBytes = Elements
fault_of parts.TooLarge = Elements
fault_of parts.BadForm = Elements
fault_of parts.Memory = Memory
