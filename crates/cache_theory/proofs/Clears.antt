pub mod ClearedGone
pub mod ClearedNames
pub mod ClearedSessions
pub mod Clearing
pub mod Covering
pub mod MarkStays
pub mod SparedObjects
