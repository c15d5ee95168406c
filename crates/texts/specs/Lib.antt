pub mod TextRows
pub mod Spelled
