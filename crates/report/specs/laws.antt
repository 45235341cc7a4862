pub mod Weave
pub mod Parts
pub mod Whole
pub mod Window
