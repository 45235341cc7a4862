pub mod Decimal
pub mod Paste
pub mod laws
pub mod Theorems
