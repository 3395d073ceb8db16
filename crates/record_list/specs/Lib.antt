pub mod Lists
pub mod Stored
pub mod Change
pub mod Laws
