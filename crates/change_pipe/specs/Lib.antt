pub mod Ends
pub mod Files
pub mod Parcels
pub mod Rule
