pub mod FormatLaws
pub mod BlockLaws
pub mod SpelledLaws
pub mod FirstFault
pub mod ReadBlock
pub mod PrintedBlock
