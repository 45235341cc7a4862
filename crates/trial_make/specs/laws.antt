pub mod Draws
pub mod Edge
pub mod Making
