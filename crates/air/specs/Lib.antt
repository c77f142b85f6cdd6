pub mod Airs
pub mod Delays
pub mod Draws
pub mod Falls
