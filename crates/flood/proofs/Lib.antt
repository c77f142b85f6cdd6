pub mod Changes
mod Onward
pub mod Sends
