pub mod Decimal
pub mod Paste
pub mod Sign
pub mod Writing
