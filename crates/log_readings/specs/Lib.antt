pub mod Lent
pub mod Places
pub mod LentLaws
