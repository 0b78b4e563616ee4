pub mod Builds
pub mod Drawn
pub mod Keys
pub mod Rows
pub mod Workers
