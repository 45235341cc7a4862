pub mod Sparse
pub mod Few
pub mod SparseMesh
pub mod Writing
pub mod Editing
pub mod Theorem
