pub mod Kept
pub mod Loads
pub mod Same
