pub mod Meanings
pub mod SideRules
pub mod Agreement
