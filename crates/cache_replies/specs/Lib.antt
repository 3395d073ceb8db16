pub mod Answers
pub mod Completing
pub mod EntryText
pub mod Printed
pub mod Said
pub mod Saying
pub mod Showing
pub mod Texts
