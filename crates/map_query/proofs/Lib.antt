pub mod Cutting
pub mod FarRows
pub mod Joined
pub mod KeptBoxes
pub mod KeptCounts
pub mod NearRows
pub mod Tables
pub mod Walk
