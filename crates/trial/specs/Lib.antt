pub mod Trial
pub mod TrialWorld
pub mod Script
