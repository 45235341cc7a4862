pub mod Strand
pub mod Ribbon
pub mod Tests
pub mod Sense
pub mod Calls
