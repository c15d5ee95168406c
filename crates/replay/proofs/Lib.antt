pub mod TurnLaws
pub mod TakeLaws
pub mod ReplayLaws
