pub mod Instances
pub mod ModelWorlds
