pub mod Asked
pub mod LogSizes
pub mod LogLaws
