pub mod Views
pub mod Level
