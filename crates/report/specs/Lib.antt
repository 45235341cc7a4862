pub mod Window
pub mod laws
