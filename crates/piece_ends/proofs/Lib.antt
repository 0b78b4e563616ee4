pub mod IndexBuilt
pub mod IndexSteps
pub mod Lines
pub mod Neighbours
pub mod PlaceTree
pub mod SamePlace
pub mod Taken
pub mod Steps
