pub mod ClauseLaws
pub mod CodeLaws
pub mod ResolutionLaws
pub mod RowLaws
pub mod LaidLaws
