pub mod FoldLaws
mod Gathered
pub mod IndexOf
pub mod Joined
pub mod Listers
mod ListingSteps
mod ListingTurns
mod OfObjects
mod Relisted
mod Rising
pub mod SortedIds
