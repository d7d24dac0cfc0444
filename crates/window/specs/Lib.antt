pub mod Windows
pub mod Claims
