pub mod Wiring
pub mod CircuitWorlds
