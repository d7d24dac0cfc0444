pub mod Seats
pub mod Called
