pub mod Mark
pub mod MarkFile
pub mod Covered
