pub mod PathLaws
pub mod ReachLaws
