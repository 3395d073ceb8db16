pub mod BodyRanges
pub mod FoundAnswers
pub mod PartRead
pub mod PartWhole
pub mod ReadsHeld
pub mod ShownParts
