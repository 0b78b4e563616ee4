pub mod Counts
mod Ruled
mod Steps
mod Sums
