pub mod Codes
pub mod Numberings
pub mod Values
