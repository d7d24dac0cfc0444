pub mod LevelLaws
pub mod TwoLevelLaws
pub mod OneCountyLaws
pub mod AlikeLaws
pub mod MarkLaws
pub mod ShownLaws
