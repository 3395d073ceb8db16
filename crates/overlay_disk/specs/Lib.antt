pub mod OnlySeen
pub mod Seen
pub mod Shown
pub mod Listed
