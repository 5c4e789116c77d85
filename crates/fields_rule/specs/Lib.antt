pub mod Judged
pub mod SoleLaws
