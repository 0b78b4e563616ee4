pub mod Adding
pub mod Answered
pub mod Beginnings
pub mod NewReaders
pub mod Rounds
pub mod Shapes
pub mod Stepping
pub mod Turns
