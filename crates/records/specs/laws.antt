pub mod Reading
pub mod Lines
pub mod Blocks
pub mod Running
pub mod Moving
