pub mod Lines
pub mod Reading
pub mod Steps
pub mod Takes
pub mod Whole
