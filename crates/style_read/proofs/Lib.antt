pub mod Manual
pub mod Own
pub mod Texts
pub mod Views
