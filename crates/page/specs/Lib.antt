pub mod Pages
pub mod Pens
