pub mod PathCall
pub mod Unrounded
pub mod Theorems
pub mod laws
