pub mod TakenLaws
pub mod ListedLaws
