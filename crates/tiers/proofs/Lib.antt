pub mod TierLaws
