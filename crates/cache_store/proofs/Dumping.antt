pub mod DumpDoes
pub mod DumpedItems
