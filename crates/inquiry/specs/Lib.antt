pub mod Answers
pub mod Complaints
pub mod Reading
pub mod Replies
pub mod Written
