pub mod Table
pub mod Findings
pub mod Checks
pub mod Rows
pub mod Laws
