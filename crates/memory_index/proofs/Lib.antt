pub mod Forgotten
pub mod OneSet
pub mod RecordsAtEnd
pub mod ScanBegins
pub mod TellsAlike
