pub mod RowLaws
pub mod CarryLaws
pub mod Carried
pub mod Formed
pub mod Computed
