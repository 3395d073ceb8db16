pub mod Found
pub mod FoundFile
pub mod FoundLoad
pub mod FoundNamed
pub mod FoundShelf
pub mod FoundUser
