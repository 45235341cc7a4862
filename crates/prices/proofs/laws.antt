pub mod Ribbons
pub mod Rows
pub mod Sense
pub mod Together
pub mod Call
