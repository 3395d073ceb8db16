pub mod NumberLaws
pub mod PathLaws
