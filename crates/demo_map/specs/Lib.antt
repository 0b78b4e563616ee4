pub mod Demo
pub mod Parts
pub mod Style
pub mod Written
