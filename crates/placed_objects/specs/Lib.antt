pub mod NodePlaces
pub mod Objects
