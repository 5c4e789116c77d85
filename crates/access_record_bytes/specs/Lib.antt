pub mod Wrote
pub mod WroteLaws
