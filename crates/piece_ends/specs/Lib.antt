pub mod Heads
pub mod Index
pub mod Joins
pub mod Pieces
pub mod Points
pub mod Rings
pub mod Walk
