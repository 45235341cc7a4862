pub mod Corners
pub mod Numbered
pub mod Inserting
pub mod Passing
pub mod Size
pub mod Theorem
pub mod Call
