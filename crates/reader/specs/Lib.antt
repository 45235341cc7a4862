pub mod Reader
pub mod Held
pub mod Walked
pub mod Standing
pub mod laws
pub mod Theorems
