pub mod EndLaws
pub mod RecordLaws
pub mod CopyLaws
pub mod LayLaws
