pub mod Index
pub mod RecordsFault
pub mod Checks
pub mod Printed
pub mod Laws
