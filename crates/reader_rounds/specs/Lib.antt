pub mod Asking
pub mod Rounds
pub mod Settling
