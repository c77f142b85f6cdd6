mod Acts
mod Chunks
mod Cuts
mod Decodes
mod Joins
mod Laid
pub mod Loaded
mod Parted
mod Passing
mod Returns
mod Roomy
mod Sections
mod WrittenBack
pub mod WrittenLoads
