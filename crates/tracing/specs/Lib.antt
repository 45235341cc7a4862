pub mod Step
pub mod Walk
pub mod Listing
pub mod Call
pub mod Corner
pub mod Met
pub mod Sides
