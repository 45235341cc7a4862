pub mod Arguments
pub mod laws
pub mod Theorems
