pub mod Replay
pub mod Reports
