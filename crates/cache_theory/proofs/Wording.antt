pub mod Worded
pub mod WordedFronts
pub mod WordedInPlace
pub mod WordedNames
pub mod WordedSettled
pub mod WordedSteps
pub mod WordedVersions
