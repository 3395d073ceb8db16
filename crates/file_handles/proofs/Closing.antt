pub mod ClosedAll
pub mod ClosedSlot
pub mod ReleasedFiles
pub mod ReleasedSlot
