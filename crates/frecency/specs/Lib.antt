pub mod Frecency
pub mod Laws
