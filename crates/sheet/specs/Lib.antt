pub mod Sheet
pub mod Claims
pub mod Shown
