pub mod Options
pub mod Lists
pub mod Bits
pub mod BigEndian
pub mod Refusals
