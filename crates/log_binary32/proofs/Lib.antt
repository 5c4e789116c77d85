-- Laws, in the order in which one needs another.
pub mod DigitsLaws
pub mod NearestLaws
pub mod RoundedLaws
pub mod CelsiusLaws
-- Lemmas of proofs.
pub mod Pattern
pub mod Bridge
pub mod Portion
mod Examples
