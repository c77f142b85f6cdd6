mod Bites
mod CheckedExamples
pub mod Checks
mod Computing
pub mod Counted
pub mod Floods
mod Keeping
pub mod Kept
pub mod Limits
pub mod NextCopies
pub mod OneByOne
mod Paces
pub mod Places
pub mod PlayLaws
pub mod Playing
pub mod Quiet
mod RowLimits
mod Rows
mod Running
mod Sequences
mod Tales
mod TalesSettle
mod ToCome
mod Told
pub mod Unread
mod Worked
mod WorkedCalls
