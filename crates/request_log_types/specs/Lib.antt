pub mod Types
pub mod LogTypeLaws
