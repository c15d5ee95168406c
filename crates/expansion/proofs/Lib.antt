pub mod RowWrites
pub mod ClaimLaws
pub mod InstanceLaws
