pub mod Outcomes
pub mod Verdicts
pub mod Cases
