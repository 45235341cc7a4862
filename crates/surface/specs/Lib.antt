pub mod Counts
pub mod Links
pub mod Labels
pub mod Parts
pub mod Signed
pub mod Rows
pub mod Calls
pub mod Chain
