pub mod EvictLimit
pub mod EvictNames
pub mod Evicting
