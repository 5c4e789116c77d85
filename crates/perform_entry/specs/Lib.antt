pub mod Slices
pub mod SlicesLaws
