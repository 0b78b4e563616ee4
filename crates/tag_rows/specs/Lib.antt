pub mod Lines
pub mod PointRows
pub mod Points
pub mod RowsById
pub mod TrimmedChange
pub mod WayRows
