pub mod AltValue
pub mod GrownHashes
pub mod PutAfterBody
