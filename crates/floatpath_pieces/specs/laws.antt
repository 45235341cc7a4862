pub mod Exact
pub mod Places
pub mod Coordinate
pub mod Pieces
