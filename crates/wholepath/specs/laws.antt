pub mod Survey
pub mod WholePath
