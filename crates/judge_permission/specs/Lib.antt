pub mod Numbered
pub mod PermissionLaws
