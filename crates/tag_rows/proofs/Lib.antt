pub mod KindRows
pub mod Manual
pub mod PointLaw
pub mod PointRowLaws
pub mod RestLaws
pub mod RowMapLaws
pub mod TrimmedLaws
pub mod WayLaws
