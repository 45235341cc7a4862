pub mod Sheet
pub mod laws
