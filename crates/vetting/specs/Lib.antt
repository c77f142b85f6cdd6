pub mod Acts
pub mod Cases
pub mod Vetted
