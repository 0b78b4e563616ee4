pub mod bounds
pub mod map
pub mod values
