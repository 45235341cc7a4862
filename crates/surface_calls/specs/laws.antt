pub mod Calls
pub mod Mesh
pub mod Rowing
pub mod Rows
