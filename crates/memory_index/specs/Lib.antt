pub mod Forgetting
pub mod Records
