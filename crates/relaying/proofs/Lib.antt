pub mod RelayLaws
pub mod EnoughLaws
pub mod EnoughMet
pub mod ShippingLaws
