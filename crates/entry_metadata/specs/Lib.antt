pub mod Metadata
pub mod Checks
pub mod Laws
pub mod Meta
pub mod PartsFault
pub mod Passed
pub mod Fields
