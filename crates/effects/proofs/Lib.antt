pub mod FrameKept
pub mod WriteLaws
