pub mod Places
pub mod KindsOfPlaces
pub mod Files
pub mod Sound
pub mod Standing
pub mod Images
pub mod Prefixes
pub mod Written
