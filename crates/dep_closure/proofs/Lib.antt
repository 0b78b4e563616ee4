mod Anys
mod Asked
mod Bridge
mod Cuts
mod Forms
mod Left
pub mod Rows
pub mod Selections
pub mod Stays
