pub mod Areas
pub mod Numbers
pub mod Paths
