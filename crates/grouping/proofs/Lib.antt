pub mod GroupLaws
pub mod FrameLaws
