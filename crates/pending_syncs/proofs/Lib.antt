pub mod KeptSteps
pub mod NoteLaws
pub mod KeptLaws
