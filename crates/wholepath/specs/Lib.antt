pub mod WholePath
pub mod Tied
pub mod laws
