pub mod Computed
pub mod SmallestLaws
pub mod ChartLaws
