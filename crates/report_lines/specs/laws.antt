pub mod Wrote
pub mod Steps
pub mod Walks
