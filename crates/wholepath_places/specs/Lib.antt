pub mod Between
pub mod laws
