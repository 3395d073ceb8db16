pub mod JournalLaws
pub mod MergedLaws
pub mod AppliedLaws
