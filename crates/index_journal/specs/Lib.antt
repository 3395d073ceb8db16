pub mod Journal
pub mod RecordsFault
pub mod Checks
pub mod Merged
pub mod Laws
