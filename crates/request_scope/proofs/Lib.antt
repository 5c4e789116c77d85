pub mod Walk
pub mod Offsets
pub mod Facts
