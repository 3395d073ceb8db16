pub mod Faults
pub mod Key
pub mod KeyTags
pub mod Laws
pub mod Tags
pub mod ValueEnds
pub mod Walk
pub mod Writing
