pub mod Answers
pub mod Fronts
pub mod History
pub mod Rule
pub mod Steps
pub mod Versions
pub mod Views
