pub mod Finding
pub mod Fronts
pub mod MapLaws
pub mod Marks
pub mod Merges
pub mod OneSpelling
pub mod RecordLists
pub mod RecordPlaces
