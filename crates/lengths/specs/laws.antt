pub mod CutLength
pub mod Summing
pub mod Sense
