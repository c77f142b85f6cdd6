pub mod Began
mod Begins
mod Carrying
pub mod Loans
mod NoneSends
mod Onward
mod Playing
pub mod Returning
mod Sending
mod Taking
mod Trying
mod Whole
