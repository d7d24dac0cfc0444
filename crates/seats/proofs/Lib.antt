pub mod SeatLaws
pub mod HeldLaws
pub mod LossLaws
pub mod SizeLaws
pub mod CalledLaws
