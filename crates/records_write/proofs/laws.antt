pub mod Encoding
pub mod Bytes
pub mod Writing
