pub mod laws
pub mod Theorems
