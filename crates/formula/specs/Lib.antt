pub mod Groups
pub mod Clauses
pub mod Reading
pub mod Marks
