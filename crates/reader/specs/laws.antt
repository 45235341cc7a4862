pub mod Reader
pub mod Walked
pub mod Elsewhere
pub mod Standing
