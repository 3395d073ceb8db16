pub mod ScriptBytes
pub mod ScriptEnds
pub mod ScriptMarks
pub mod ScriptReplies
pub mod ScriptTurns
pub mod ScriptWhole
