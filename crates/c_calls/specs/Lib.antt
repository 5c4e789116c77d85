pub mod Find
pub mod Notes
