pub mod Asking
pub mod Refusals
