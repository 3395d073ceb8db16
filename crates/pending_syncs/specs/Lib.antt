pub mod Kept
pub mod Folders
pub mod OpenFolders
pub mod Files
