pub mod CopyText
pub mod Geometry
pub mod Numbered
pub mod Row
pub mod Table
