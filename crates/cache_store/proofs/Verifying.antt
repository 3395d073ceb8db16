pub mod FoundOnShelf
pub mod VerifyDoes
