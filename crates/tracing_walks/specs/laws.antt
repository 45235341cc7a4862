pub mod Along
pub mod Marks
pub mod Onward
pub mod Present
pub mod Size
pub mod Stands
pub mod Steps
