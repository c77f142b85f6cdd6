mod Blocks
pub mod Somewhere
