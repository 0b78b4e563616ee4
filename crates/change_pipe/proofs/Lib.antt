mod Ended
mod FileLaws
mod Moves
pub mod ParcelLaws
