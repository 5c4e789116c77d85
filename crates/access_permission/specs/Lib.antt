pub mod Permissions
pub mod Permission
pub mod Granted
