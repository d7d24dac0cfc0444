pub mod Cases
pub mod Computed
pub mod PatchLaws
pub mod RightLaws
pub mod AddLaws
pub mod ReachLaws
pub mod SentLaws
pub mod CopyLaws
