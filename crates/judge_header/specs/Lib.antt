pub mod HeaderFault
pub mod FaultBy
pub mod Rest
