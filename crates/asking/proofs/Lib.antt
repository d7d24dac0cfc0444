pub mod AskingLaws
