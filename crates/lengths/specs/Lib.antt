pub mod CutLength
pub mod laws
pub mod Theorems
