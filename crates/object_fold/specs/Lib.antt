pub mod Change
pub mod Keeps
pub mod Listing
pub mod Listings
pub mod Objects
pub mod RisingIds
