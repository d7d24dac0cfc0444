pub mod Steps
pub mod Atomic
pub mod Slips
