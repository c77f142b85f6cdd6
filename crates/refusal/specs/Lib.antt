pub mod Carried
pub mod Causes
pub mod Refusals
