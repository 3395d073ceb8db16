pub mod FillEnds
pub mod FillHalf
pub mod FillRuns
pub mod FillTexts
pub mod FillWhole
