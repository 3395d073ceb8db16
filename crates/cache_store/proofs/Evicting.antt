pub mod EvictDoes
pub mod Forgotten
pub mod SameTotals
pub mod VictimsApart
