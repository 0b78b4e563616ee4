pub mod Core
pub mod Promise
pub mod Reached
