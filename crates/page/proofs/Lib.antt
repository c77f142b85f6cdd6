mod Overlays
pub mod Wrotes
