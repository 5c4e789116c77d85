pub mod Walking
pub mod Storing
pub mod Nesting
