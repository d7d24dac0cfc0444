pub mod RoundLaws
pub mod FrameLaws
pub mod Computed
