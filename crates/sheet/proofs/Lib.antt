pub mod SumLaws
pub mod SheetLaws
pub mod ShownLaws
