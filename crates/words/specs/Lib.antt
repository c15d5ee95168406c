pub mod Forms
pub mod Words
pub mod Seen
pub mod Due
pub mod Tables
