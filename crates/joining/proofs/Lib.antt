pub mod OrderLaws
pub mod FrameLaws
pub mod RowLaws
