pub mod FirstFault
pub mod IndexLaws
pub mod ReadIndex
pub mod PrintedIndex
