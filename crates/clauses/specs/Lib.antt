pub mod Worlds
pub mod Clauses
pub mod Laid
pub mod EntryLaws
