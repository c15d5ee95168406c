pub mod ClauseLaws
pub mod GroupLaws
pub mod FrontLaws
pub mod HeaderLaws
