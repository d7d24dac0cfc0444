pub mod WalkLaws
pub mod OrderLaws
pub mod ZeroLaws
pub mod HeadLaws
