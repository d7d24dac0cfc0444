pub mod Charts
pub mod Claims
