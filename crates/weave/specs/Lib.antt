pub mod Letters
pub mod Calls
pub mod Ribbon
