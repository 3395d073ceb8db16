pub mod LeastFree
pub mod ClearedTo
