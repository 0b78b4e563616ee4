pub mod Locality
pub mod NoRow
pub mod TableMap
pub mod TableRows
pub mod Unwanted
