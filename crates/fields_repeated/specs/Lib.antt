pub mod Values
pub mod Repeated
pub mod RepeatedLaws
pub mod Joins
pub mod JoinsLaws
