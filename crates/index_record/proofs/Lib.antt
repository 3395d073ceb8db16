pub mod Bits
pub mod RecordLaws
