pub mod Clearing
pub mod Loading
pub mod Maps
pub mod Places
pub mod Rows
pub mod Tables
