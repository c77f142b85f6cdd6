pub mod Meaning
pub mod Kinds
pub mod Four
pub mod Worked
pub mod RingSettles
pub mod After
pub mod LinearSettles
