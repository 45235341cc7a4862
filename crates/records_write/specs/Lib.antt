pub mod Encoding
pub mod Call
