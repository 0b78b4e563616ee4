pub mod Growth
pub mod Overlay
