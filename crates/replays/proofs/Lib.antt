pub mod Histories
pub mod Cases
pub mod Computed
