pub mod CreatedCommand
pub mod CreatedIn
pub mod JoinedObject
pub mod JoinedOpen
pub mod JoinedReader
pub mod JoinedSlots
