pub mod Polls
pub mod Rows
pub mod Calls
pub mod Claims
