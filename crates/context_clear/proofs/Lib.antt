pub mod MarkLaws
pub mod MarkStored
pub mod CoveredNames
