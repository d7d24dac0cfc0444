pub mod Relaying
pub mod Enough
pub mod Shipping
