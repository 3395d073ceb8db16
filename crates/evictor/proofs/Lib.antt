pub mod Prefix
pub mod Sorting
pub mod Stable
pub mod AnyOrder
