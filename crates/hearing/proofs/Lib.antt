pub mod Hears
mod Settles
