pub mod Kinds
pub mod Records
