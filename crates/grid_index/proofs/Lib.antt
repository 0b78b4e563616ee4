pub mod Levels
pub mod Marked
pub mod Near
pub mod Order
pub mod Trees
pub mod Walks
