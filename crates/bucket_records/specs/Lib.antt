pub mod Changes
pub mod Held
pub mod Places
pub mod Records
pub mod Spelling
