pub mod PutBody
pub mod PutCommands
pub mod PutEnds
pub mod PutMachine
pub mod PutPieces
pub mod PutReplies
pub mod PutWhole
