pub mod Vets
mod Orders
