pub mod Cells
pub mod Grid
pub mod Marks
pub mod Search
