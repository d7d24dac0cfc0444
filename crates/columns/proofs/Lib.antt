pub mod ColumnLaws
pub mod ShiftLaws
