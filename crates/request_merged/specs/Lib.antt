pub mod Setups
pub mod Types
