pub mod Records
pub mod Reading
pub mod Lines
pub mod Blocks
pub mod laws
pub mod Theorems
