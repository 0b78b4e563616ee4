mod Fill
mod Kept
mod Rises
mod Rounds
