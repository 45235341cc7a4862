pub mod Trial
pub mod TrialLaws
