pub mod TextLaws
pub mod Computed
pub mod NoticeLaws
