pub mod Answers
pub mod Laws
pub mod Plays
pub mod Returning
pub mod Standing
pub mod Writing
