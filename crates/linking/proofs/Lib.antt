pub mod PathLaws
pub mod InsertLaws
pub mod EndLaws
pub mod NameLaws
