pub mod Table
pub mod TableLaws
pub mod Halving
pub mod HalvingLaws
