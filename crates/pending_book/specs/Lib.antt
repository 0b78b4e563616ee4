pub mod Drawn
pub mod Once
pub mod Rule
pub mod Seat
