pub mod Alike
pub mod Change
pub mod Sits
pub mod Turn
pub mod Vertex
pub mod Without
