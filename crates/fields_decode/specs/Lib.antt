pub mod Nested
pub mod Slots
