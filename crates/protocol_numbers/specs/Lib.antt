-- The numbers that the documents give, and that the definitions behave so.
pub mod Documented
