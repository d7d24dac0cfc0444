pub mod BoolLaws
