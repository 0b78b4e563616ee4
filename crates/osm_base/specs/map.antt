pub mod Known
pub mod Listers
pub mod Objects
pub mod Pending
pub mod SpotTree
pub mod Spots
