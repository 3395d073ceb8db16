pub mod Record
pub mod Filling
