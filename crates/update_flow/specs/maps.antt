pub mod Held
pub mod Touched
pub mod Migrating
pub mod Calls
pub mod Laws
