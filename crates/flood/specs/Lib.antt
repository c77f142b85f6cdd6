pub mod Copies
pub mod Instants
pub mod Sensors
