pub mod Ribbons
pub mod Rows
pub mod Call
