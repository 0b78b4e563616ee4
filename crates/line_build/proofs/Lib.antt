pub mod Begun
pub mod Examples
