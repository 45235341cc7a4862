pub mod Tests
pub mod Lengths
pub mod Darts
pub mod Vertices
pub mod Whole
pub mod Bounds
pub mod Full
