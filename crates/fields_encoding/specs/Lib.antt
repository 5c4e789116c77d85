pub mod Encode
pub mod Depth
pub mod Known
pub mod Cost
pub mod AllFit
pub mod FitsTest
