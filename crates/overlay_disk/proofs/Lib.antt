pub mod SlotLaws
pub mod Counted
pub mod OverLaws
pub mod LayerLaws
pub mod ListLaws
