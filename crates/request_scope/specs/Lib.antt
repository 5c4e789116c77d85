pub mod Stands
pub mod Scope
pub mod ScopeLaws
pub mod Rests
pub mod RestsLaws
