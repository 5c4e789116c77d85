pub mod Differs
pub mod DiffersLaws
