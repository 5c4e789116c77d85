pub mod Calls
pub mod LentState
