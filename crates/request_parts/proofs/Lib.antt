-- Laws, in the order in which one needs another.
pub mod ViewLaws
-- Lemmas of proofs.
pub mod Levels
