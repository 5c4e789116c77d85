pub mod State
pub mod Rescue
pub mod Listed
pub mod Survey
pub mod Kept
pub mod Places
pub mod Report
