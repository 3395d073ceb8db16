pub mod AltData
