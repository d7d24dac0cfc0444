pub mod TurnLaws
pub mod SaidLaws
