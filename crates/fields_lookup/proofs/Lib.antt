-- Laws, in the order in which one needs another.
pub mod LevelLaws
pub mod SliceLaws
-- Lemmas of proofs.
pub mod Slotted
pub mod Levels
