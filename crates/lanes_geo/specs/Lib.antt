pub mod Box
pub mod Crossing
pub mod Grid
pub mod Nesting
