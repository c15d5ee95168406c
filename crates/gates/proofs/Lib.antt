pub mod EntryLaws
pub mod ClaimLaws
pub mod WiringLaws
pub mod ReachTables
pub mod OpeningLaws
pub mod RightLaws
pub mod RowCopies
