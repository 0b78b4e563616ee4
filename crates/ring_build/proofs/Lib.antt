pub mod Appended
pub mod Closed
pub mod Examples
pub mod OddPlaces
pub mod Parity
