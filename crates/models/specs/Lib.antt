pub mod Models
pub mod CircuitValues
pub mod HeldTables
