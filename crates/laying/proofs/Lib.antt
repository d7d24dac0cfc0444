mod LaidLaws
pub mod NameLaws
