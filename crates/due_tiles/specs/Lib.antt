pub mod Ends
pub mod Joining
pub mod Levels
pub mod Part
pub mod Piece
pub mod Spelling
pub mod TileText
