pub mod Exact
pub mod Path
pub mod laws
pub mod Theorems
