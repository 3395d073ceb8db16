pub mod AltChecks
pub mod AltCommand
pub mod LongerEntry
