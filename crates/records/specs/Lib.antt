pub mod Records
pub mod Slips
