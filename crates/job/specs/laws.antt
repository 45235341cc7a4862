-- What the job program's loops know.
pub mod Progress
pub mod Report
