pub mod ByteLaws
pub mod CheckLaws
pub mod NameLaws
pub mod NumberLaws
