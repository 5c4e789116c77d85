pub mod Scopes
pub mod Rests
pub mod Acls
