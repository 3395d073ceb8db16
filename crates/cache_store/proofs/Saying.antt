pub mod FaultLine
pub mod PrintedLaws
pub mod ReplyLaws
pub mod SaidWhole
pub mod TakenMore
pub mod Unsaid
