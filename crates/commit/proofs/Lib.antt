pub mod Invariant
pub mod Turns
pub mod Moves
pub mod Kept
pub mod Looks
pub mod AtomicLaws
pub mod LedgerLaws
pub mod Losses
