pub mod Ascii
pub mod Counted
pub mod Escapes
pub mod Manual
pub mod Ordered
pub mod TableRows
