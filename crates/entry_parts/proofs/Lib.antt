pub mod Cuts
pub mod ElementLaws
pub mod HeaderLaws
pub mod Places
pub mod SettingLaws
pub mod SpelledLaws
