pub mod Moves
pub mod Claims
