pub mod LoadBytes
pub mod LoadEnds
pub mod LoadParts
pub mod LoadTurns
