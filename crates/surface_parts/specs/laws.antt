pub mod Forest
pub mod Linking
