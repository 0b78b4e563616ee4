pub mod Cutting
pub mod History
pub mod ServedFiles
