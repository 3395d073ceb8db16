pub mod Elements
pub mod Header
pub mod Numbers
pub mod Places
pub mod Setting
