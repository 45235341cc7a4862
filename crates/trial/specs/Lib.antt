pub mod Program
pub mod laws
pub mod Theorems
