-- Definitions (docs/READING.md).
pub mod Answered
pub mod Later
-- What comes of an answered call, by cases, for the proofs.
pub mod Cases
