pub mod ActLaws
pub mod FairLaws
pub mod RoundsMet
