pub mod LineLemmas
mod Manual
pub mod TakeLemmas
pub mod Walk
