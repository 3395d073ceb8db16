pub mod ChunkLists
pub mod ClosedChunks
pub mod HeldChunkLaws
pub mod Parts
pub mod PartsSlots
pub mod ReadChunks
pub mod ReadKept
