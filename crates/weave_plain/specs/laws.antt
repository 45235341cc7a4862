pub mod Hands
pub mod Plain
