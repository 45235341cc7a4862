pub mod Changes
pub mod Edge
pub mod Turns
pub mod Verdicts
pub mod Edits
pub mod Rules
