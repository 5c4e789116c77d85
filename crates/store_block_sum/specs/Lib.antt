pub mod Sum
pub mod SumLaws
