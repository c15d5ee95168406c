pub mod DueLaws
pub mod TableLaws
pub mod WordLaws
