mod FoundingLaws
