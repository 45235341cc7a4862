pub mod Survey
pub mod WholePath
pub mod Tied
pub mod Sense
