pub mod SizeLaws
pub mod HeightLaws
